use Rattle.std.proofs.Common.{Bool, ap, arith, get_or, if◌then◌else◌, inl, inr, length, min, refl, ℕ, ◌+◌, ◌-◌, ◌<◌, ◌≡◌, ◌≤◌, ◌∙◌}
use Rattle.std.proofs.lemmas.Bool.{cases_lt}
use Rattle.bw_mask.specs.Masks.{row_at}
use Rattle.bw_code.specs.Columns.{code_at, count, is_chosen}
use Rattle.bw_code.proofs.Lists.{made_at, made_len}
use Rattle.bw_code.proofs.Runs.{chosen_below, chosen_past, chosen_row, next_word}
use Rattle.bw_code.proofs.column.CodeColumn.fill_rows.Goals as goal

pub loop-at-preserved : goal.loop-at-preserved
loop-at-preserved g c =
    let i = c.loop-at.invariant in
    let at = c.loop-at.at in
    let n = c.min-n.result in
    let bits = c.bits.result in
    let row : ℕ → Bool = row_at c.args.rows.now in
    let first = g.Self.CodeColumn.seen c.args.self.now in
    let old = g.Self.CodeColumn.seen c.loop-at.self in
    let new = g.Self.CodeColumn.seen c.fill_run.new.self in
    let inside : at + n ≤ count first = omega (arith, c.min-n.ensures, c.len-end.ensures.count, i.at) in
    let put_to : ℕ → ℕ = λ j. if is_chosen at bits j then c.args.code else get_or old.codes j 0 in
    let long : count new ≡ count old = ap length c.fill_run.ensures.codes ∙ made_len (count old) put_to in
    let put : (j : ℕ) → j < count first → code_at new j ≡ put_to j = λ j h. ap (λ codes. get_or codes j 0) c.fill_run.ensures.codes ∙ made_at (count old) put_to j 0 (omega (arith, h, i.long)) in
    let done : (j : ℕ) → j < at + n → code_at new j ≡ (if row j then c.args.code else code_at first j) = λ j h.
    put j (omega (arith, h, inside)) ∙ elim (cases_lt j at) [
      | inl l ↦ rw (chosen_below at bits j l) (i.done j l)
      | inr from ↦ rw (chosen_row at n bits row c.bits.ensures j from h, i.left j from (omega (arith, h, inside))) refl
    ] in
    let left : (j : ℕ) → at + n ≤ j → j < count first → code_at new j ≡ code_at first j = λ j h there.
    put j there ∙ rw (chosen_past at n bits row c.bits.ensures j h) (i.left j (omega (arith, h)) there) in
    record {
      shape = record {
        width = c.fill_run.ensures.shape.width ∙ i.shape.width;
        room = omega (arith, c.fill_run.ensures.shape.room, i.shape.room);
      };
      long = long ∙ i.long;
      word = next_word (count first) at n i.word (omega (arith, c.loop-at-test.true, c.len-end.ensures.count)) (c.min-n.ensures ∙ ap (λ m. min (m - at) 64) c.len-end.ensures.count);
      at = inside;
      done = done;
      left = left;
    }
