use Rattle.std.proofs.Common.{Bool, arith, inl, inr, refl, ℕ, ◌∙◌}
use Rattle.std.proofs.lemmas.Bool.{cases_lt}
use Rattle.bw_mask.specs.Masks.{row_at}
use Rattle.bw_column.proofs.Exchanged.{bits_before, bits_here, bits_past}
use Rattle.bw_column.proofs.exchanging.exchange_bits.Goals as goal

pub loop-at-preserved : goal.loop-at-preserved
loop-at-preserved c =
    let i = c.loop-at.invariant in
    let at = c.loop-at.at in
    let n = c.min-n.result in
    let bits = c.bits-chosen.result in
    let row : ℕ → Bool = row_at c.args.rows.now in
    let own : ℕ → Bool = row_at c.loop-at.nonnull in
    let other : ℕ → Bool = row_at c.loop-at.other in
    let new : ℕ → Bool = row_at c.put_presence.new.nonnull in
    let new_other : ℕ → Bool = row_at c.put_presence-in-loop-at.new.nonnull in
    let a = c.put_presence.ensures in
    let b = c.put_presence-in-loop-at.ensures in
    let there = c.bits.ensures in
    let here = c.bits-own.ensures in
    record {
      at = omega (arith, c.min-n.ensures, i.at);
      shape = (a.shape.0 ∙ i.shape.0, a.shape.1 ∙ i.shape.1);
      other_shape = (b.shape.0 ∙ i.other_shape.0, b.shape.1 ∙ i.other_shape.1);
      done = λ j h.
          elim (cases_lt j at) [
            | inl l ↦ bits_before at n bits c.bits.result row other new own c.bits-chosen.ensures there a.rows j l ∙ i.done j l
            | inr from ↦ bits_here at n bits c.bits.result row other new own c.bits-chosen.ensures there a.rows j from h ∙ rw (i.rest j from, i.other_rest j from) refl
          ];
      other_done = λ j h.
          elim (cases_lt j at) [
            | inl l ↦ bits_before at n bits c.bits-own.result row own new_other other c.bits-chosen.ensures here b.rows j l ∙ i.other_done j l
            | inr from ↦ bits_here at n bits c.bits-own.result row own new_other other c.bits-chosen.ensures here b.rows j from h ∙ rw (i.rest j from, i.other_rest j from) refl
          ];
      rest = λ j h. bits_past at n bits c.bits.result row other new own c.bits-chosen.ensures there a.rows j h ∙ i.rest j (omega (arith, h));
      other_rest = λ j h. bits_past at n bits c.bits-own.result row own new_other other c.bits-chosen.ensures here b.rows j h ∙ i.other_rest j (omega (arith, h));
    }
