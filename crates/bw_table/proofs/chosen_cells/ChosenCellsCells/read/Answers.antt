use Rattle.std.proofs.Common.{Option, ap, arith, drop, length, inl, inr, length-take, map, refl, sym, take, ℕ, ℤ, ◌*◌, ◌++◌, ◌+◌, ◌-◌, ◌<◌, ◌==◌, ◌≡◌, ◌≤◌, ◌∙◌}
use Rattle.std.proofs.lemmas.Bool.{both_ways, cases_lt, eq-eqb}
use Rattle.std.proofs.lemmas.List.{drop-drop, length-map, take_all}
use Rattle.std.proofs.Math.Seq.{take-add}
use Rattle.bw_mask.specs.Masks.{len}
use Rattle.bw_column.specs.Places.{chosen_values}
use Rattle.bw_column.specs.Values.{value_at}
use Rattle.bw_table.specs.Changes.{places, places_below}
use Rattle.bw_table.specs.Choosing.{AreCounts}
use Rattle.bw_table.proofs.Chosen.{all_begin, at_word, few_places, fewer, part_between, word_count}
use Rattle.bw_table.proofs.chosen_cells.ChosenCellsCells.read.Goals as goal

pub loop-done-init : goal.loop-done-init
loop-done-init c =
    let mask = c.self.inside.mask.now in
    let are : AreCounts mask c.deref.result.now = rw c.deref.ensures.value c.self.invariant.1 in
    let all = sym (length-map (places mask) (value_at c.self.inside.column.now.values)) ∙ ap length c.self.view_is in
    let out = c.args.out.now in
    let some : 0 < length out =
    elim (cases_lt 0 (length out)) [
      | inl h ↦ h
      | inr none ↦ absurd (both_ways (length out == 0) (sym c.if-is_empty.ensures) (eq-eqb (length out) 0 (omega (arith, none))))
    ] in
    let word = c.word_with-w.ensures mask are (omega (arith, all, c.requires, some)) in
    record {
      inside = omega arith;
      long = refl;
      front = refl;
      low = λ _. omega (arith, word.0);
      high = omega (arith, word.1);
    }

pub read_word-count-requires-clause-there : goal.read_word-count-requires-clause-there
read_word-count-requires-clause-there c =
    let mask = c.self.inside.mask.now in
    let all = sym (length-map (places mask) (value_at c.self.inside.column.now.values)) ∙ ap length c.self.view_is in
    let test = c.loop-done-test.true in
    (at_word mask c.self.inside.before.items c.loop-done.w (c.args.at + c.loop-done.done) c.self.invariant.1 (c.loop-done.invariant.low test) (omega (arith, all, c.requires, c.loop-done.invariant.long, test))).0

pub overflow_add-skip : goal.overflow_add-skip
overflow_add-skip c =
    let mask = c.self.inside.mask.now in
    let all = sym (length-map (places mask) (value_at c.self.inside.column.now.values)) ∙ ap length c.self.view_is in
    omega (arith, all, c.requires, c.loop-done.invariant.long, c.loop-done-test.true, few_places mask (len mask), c.len-few.ensures.rows, c.len-few.ensures.few)

pub index-requires : goal.index-requires
index-requires c =
    let mask = c.self.inside.mask.now in
    let all = sym (length-map (places mask) (value_at c.self.inside.column.now.values)) ∙ ap length c.self.view_is in
    let test = c.loop-done-test.true in
    let at = at_word mask c.self.inside.before.items c.loop-done.w (c.args.at + c.loop-done.done) c.self.invariant.1 (c.loop-done.invariant.low test) (omega (arith, all, c.requires, c.loop-done.invariant.long, test)) in
    omega (arith, at.1, c.self.inside.before.ok.0)

pub overflow_sub-skip : goal.overflow_sub-skip
overflow_sub-skip c =
    let mask = c.self.inside.mask.now in
    let all = sym (length-map (places mask) (value_at c.self.inside.column.now.values)) ∙ ap length c.self.view_is in
    let test = c.loop-done-test.true in
    let at = at_word mask c.self.inside.before.items c.loop-done.w (c.args.at + c.loop-done.done) c.self.invariant.1 (c.loop-done.invariant.low test) (omega (arith, all, c.requires, c.loop-done.invariant.long, test)) in
    omega (arith, at.2 c.index.result.now, c.index.ensures, c.loop-done.invariant.low test)

pub overflow_sub-count : goal.overflow_sub-count
overflow_sub-count c =
    let mask = c.self.inside.mask.now in
    let all = sym (length-map (places mask) (value_at c.self.inside.column.now.values)) ∙ ap length c.self.view_is in
    let test = c.loop-done-test.true in
    let w = c.loop-done.w in
    let front = c.read_word-count.new.out in
    let count = c.read_word-count.result in
    let at = at_word mask c.self.inside.before.items w (c.args.at + c.loop-done.done) c.self.invariant.1 (c.loop-done.invariant.low test) (omega (arith, all, c.requires, c.loop-done.invariant.long, test)) in
    let more = word_count (value_at c.self.inside.column.now.values) (places_below mask (64 * w)) (places_below mask (64 * (w + 1))) (take count front) c.read_word-count.ensures.values in
    omega (arith, at.2 c.index.result.now, c.index.ensures, c.loop-done.invariant.high, more, length-take count front, c.read_word-count.ensures.few, c.type_inv.front)

pub copy_part-requires-clause-there : goal.copy_part-requires-clause-there
copy_part-requires-clause-there c =
    let mask = c.self.inside.mask.now in
    let all = sym (length-map (places mask) (value_at c.self.inside.column.now.values)) ∙ ap length c.self.view_is in
    let test = c.loop-done-test.true in
    let w = c.loop-done.w in
    let front = c.read_word-count.new.out in
    let count = c.read_word-count.result in
    let at = at_word mask c.self.inside.before.items w (c.args.at + c.loop-done.done) c.self.invariant.1 (c.loop-done.invariant.low test) (omega (arith, all, c.requires, c.loop-done.invariant.long, test)) in
    let more = word_count (value_at c.self.inside.column.now.values) (places_below mask (64 * w)) (places_below mask (64 * (w + 1))) (take count front) c.read_word-count.ensures.values in
    omega (arith, at.2 c.index.result.now, c.index.ensures, c.loop-done.invariant.high, more, length-take count front, c.read_word-count.ensures.few, c.read_word-count.array_long, c.min-n.ensures)

pub overflow_add-w : goal.overflow_add-w
overflow_add-w c =
    let mask = c.self.inside.mask.now in
    let all = sym (length-map (places mask) (value_at c.self.inside.column.now.values)) ∙ ap length c.self.view_is in
    let test = c.loop-done-test.true in
    let at = at_word mask c.self.inside.before.items c.loop-done.w (c.args.at + c.loop-done.done) c.self.invariant.1 (c.loop-done.invariant.low test) (omega (arith, all, c.requires, c.loop-done.invariant.long, test)) in
    omega (arith, at.0, c.len-few.ensures.rows, c.len-few.ensures.few)

pub loop-done-smaller : goal.loop-done-smaller
loop-done-smaller c =
    let mask = c.self.inside.mask.now in
    let all = sym (length-map (places mask) (value_at c.self.inside.column.now.values)) ∙ ap length c.self.view_is in
    let test = c.loop-done-test.true in
    let at = at_word mask c.self.inside.before.items c.loop-done.w (c.args.at + c.loop-done.done) c.self.invariant.1 (c.loop-done.invariant.low test) (omega (arith, all, c.requires, c.loop-done.invariant.long, test)) in
    omega (arith, at.1)

pub loop-done-preserved : goal.loop-done-preserved
loop-done-preserved c =
    let mask = c.self.inside.mask.now in
    let vs = c.self.inside.column.now.values in
    let value : ℕ → Option ℤ = value_at vs in
    let all = sym (length-map (places mask) value) ∙ ap length c.self.view_is in
    let inv = c.loop-done.invariant in
    let test = c.loop-done-test.true in
    let w = c.loop-done.w in
    let done = c.loop-done.done in
    let pos = c.args.at + done in
    let front = c.read_word-count.new.out in
    let count = c.read_word-count.result in
    let n = c.min-n.result in
    let before = c.index.result.now in
    let skip = pos - before in
    let below = places_below mask (64 * w) in
    let next = places_below mask (64 * (w + 1)) in
    let part = take count front in
    let whole = chosen_values mask vs in
    let at = at_word mask c.self.inside.before.items w pos c.self.invariant.1 (inv.low test) (omega (arith, all, c.requires, inv.long, test)) in
    let more = word_count value below next part c.read_word-count.ensures.values in
    let is : before ≡ length below = c.index.ensures ∙ at.2 before in
    let long : length part ≡ count = omega (arith, length-take count front, c.read_word-count.ensures.few, c.read_word-count.array_long) in
    let fits : skip + n ≤ length part = omega (arith, is, inv.high, more, long, c.min-n.ensures, inv.low test) in
    let begin = all_begin mask value (64 * (w + 1)) in
    let stands : whole ≡ (map value below ++ part) ++ begin.0 = begin.1 ∙ ap (λ xs. xs ++ begin.0) c.read_word-count.ensures.values in
    let place : length (map value below) + skip ≡ pos = omega (arith, length-map below value, is, inv.low test) in
    let here : take n (drop pos whole) ≡ take n (drop skip part) = ap (λ i. take n (drop i whole)) (sym place) ∙ part_between whole (map value below) part begin.0 skip n stands fits in
    let back : drop done (drop c.args.at whole) ≡ drop pos whole = drop-drop done c.args.at whole in
    record {
      inside = omega (arith, c.copy_part.ensures.long, c.min-n.ensures, test);
      long = c.copy_part.ensures.long ∙ inv.long;
      front =
          c.copy_part.ensures.front
          ∙ ap (λ xs. xs ++ take n (drop skip part)) inv.front
          ∙ ap (λ xs. take done (drop c.args.at whole) ++ xs) (sym here ∙ ap (take n) (sym back))
          ∙ sym (take-add done n (drop c.args.at whole));
      low = λ low. omega (arith, low, c.copy_part.ensures.long, c.min-n.ensures, is, more, long, inv.high, inv.low test);
      high = omega (arith, fits, is, more, long, inv.low test, fewer mask (64 * (w + 1)) (64 * (w + 1 + 1)) (omega arith));
    }

pub returns : goal.returns
returns c =
    let out = c.loop-done.out in
    let inv = c.loop-done.invariant in
    let all : c.loop-done.done ≡ length out = omega (arith, inv.inside, c.loop-done-test.false) in
    sym (take_all (length out) out (omega arith)) ∙ ap (λ n. take n out) (sym all) ∙ inv.front ∙ ap (λ n. take n (drop c.args.at (chosen_values c.self.inside.mask.now c.self.inside.column.now.values))) (all ∙ inv.long) ∙ ap (λ xs. take (length c.args.out.now) (drop c.args.at xs)) c.self.view_is
