use Rattle.std.proofs.Common.{Bool, ap, arith, drop, get_or, inl, inr, length, length-drop, length-take, min, refl, take, ℕ, ◌+◌, ◌-◌, ◌<◌, ◌≡◌, ◌≤◌, ◌∙◌}
use Rattle.std.proofs.lemmas.Bool.{cases_lt}
use Rattle.bw_mask.specs.Masks.{row_at}
use Rattle.bw_code.specs.Columns.{code_at, count}
use Rattle.bw_code.proofs.Lists.{part_at}
use Rattle.bw_code.proofs.Runs.{block_before, block_here, block_long, block_past, next_word}
use Rattle.bw_code.proofs.column.CodeColumn.exchange_rows.Goals as goal

pub loop-at-preserved : goal.loop-at-preserved
loop-at-preserved g c =
    let i = c.loop-at.invariant in
    let at = c.loop-at.at in
    let n = c.min-n.result in
    let bits = c.bits-chosen.result in
    let row : ℕ → Bool = row_at c.args.rows.now in
    let first = g.Self.CodeColumn.seen c.args.self.now in
    let first_other = g.Self.CodeColumn.seen c.args.other.now in
    let old = g.Self.CodeColumn.seen c.loop-at.self in
    let old_other = g.Self.CodeColumn.seen c.loop-at.other in
    let own = c.read.new.out in
    let others = c.read-in-loop-at.new.out in
    let new = g.Self.CodeColumn.seen c.put_run.new.self in
    let new_other = g.Self.CodeColumn.seen c.put_run-in-loop-at.new.self in
    let inside : at + n ≤ count first = omega (arith, c.min-n.ensures, c.len-end.ensures.count, i.at) in
    let here : at + n ≤ count old = omega (arith, inside, i.long) in
    let other_here : at + n ≤ count old_other = omega (arith, inside, i.other_long) in
    let own_is : own ≡ take n (drop at old.codes) = c.read.ensures.codes ∙ ap (λ m. take m (drop at old.codes)) (omega (arith, length-take n c.loop-at.own_list, c.min-n.ensures)) in
    let others_are : others ≡ take n (drop at old_other.codes) = c.read-in-loop-at.ensures.codes ∙ ap (λ m. take m (drop at old_other.codes)) (omega (arith, length-take n c.loop-at.other_list, c.min-n.ensures)) in
    let own_long : length own ≡ n = ap length own_is ∙ omega (arith, length-take n (drop at old.codes), length-drop at old.codes, here) in
    let others_long : length others ≡ n = ap length others_are ∙ omega (arith, length-take n (drop at old_other.codes), length-drop at old_other.codes, other_here) in
    let own_each : (k : ℕ) → k < n → get_or own k 0 ≡ code_at old (at + k) = λ k h. part_at old.codes own at n k 0 own_is (omega (arith, own_long, h)) in
    let others_each : (k : ℕ) → k < n → get_or others k 0 ≡ code_at old_other (at + k) = λ k h. part_at old_other.codes others at n k 0 others_are (omega (arith, others_long, h)) in
    let there : (j : ℕ) → j < at + n → j < count first = λ j h. omega (arith, h, inside) in
    let a = c.put_run.ensures in
    let b = c.put_run-in-loop-at.ensures in
    record {
      shape = record {
        width = a.shape.width ∙ i.shape.width;
        room = omega (arith, a.shape.room, i.shape.room);
      };
      other_shape = record {
        width = b.shape.width ∙ i.other_shape.width;
        room = omega (arith, b.shape.room, i.other_shape.room);
      };
      long = block_long old.codes others new.codes at n bits row (code_at old_other) c.bits-chosen.ensures here others_each a.codes ∙ i.long;
      other_long = block_long old_other.codes own new_other.codes at n bits row (code_at old) c.bits-chosen.ensures other_here own_each b.codes ∙ i.other_long;
      word = next_word (count first) at n i.word (omega (arith, c.loop-at-test.true, c.len-end.ensures.count)) (c.min-n.ensures ∙ ap (λ m. min (m - at) 64) c.len-end.ensures.count);
      at = inside;
      done = λ j h.
          elim (cases_lt j at) [
            | inl l ↦ block_before old.codes others new.codes at n bits row (code_at old_other) c.bits-chosen.ensures here others_each a.codes j l ∙ i.done j l
            | inr from ↦ block_here old.codes others new.codes at n bits row (code_at old_other) c.bits-chosen.ensures here others_each a.codes j from h ∙ rw (i.left j from (there j h), i.other_left j from (there j h)) refl
          ];
      other_done = λ j h.
          elim (cases_lt j at) [
            | inl l ↦ block_before old_other.codes own new_other.codes at n bits row (code_at old) c.bits-chosen.ensures other_here own_each b.codes j l ∙ i.other_done j l
            | inr from ↦ block_here old_other.codes own new_other.codes at n bits row (code_at old) c.bits-chosen.ensures other_here own_each b.codes j from h ∙ rw (i.left j from (there j h), i.other_left j from (there j h)) refl
          ];
      left = λ j h t. block_past old.codes others new.codes at n bits row (code_at old_other) c.bits-chosen.ensures here others_each a.codes j h (omega (arith, t, i.long)) ∙ i.left j (omega (arith, h)) t;
      other_left = λ j h t. block_past old_other.codes own new_other.codes at n bits row (code_at old) c.bits-chosen.ensures other_here own_each b.codes j h (omega (arith, t, i.other_long)) ∙ i.other_left j (omega (arith, h)) t;
    }
