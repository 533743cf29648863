use Rattle.std.proofs.Common.{arith, drop, length, length-drop, refl, rules, subst, sym, take, ◌+◌, ◌+ℤ◌, ◌≡◌, ◌∙◌}
use Rattle.std.proofs.lemmas.Int.{ints}
use Rattle.std.proofs.lemmas.List.{length-take}
use Rattle.std.specs.Int.{w128}
use Rattle.bw_mask.proofs.Bits.{bit_of_zero}
use Rattle.bw_aggregate.specs.Entries.{AreSummed}
use Rattle.bw_aggregate.specs.Runs.{value_total}
use Rattle.bw_aggregate.proofs.EntrySums.{entries_none}
use Rattle.bw_aggregate.proofs.entry_sums.entries_at.Goals as goal
use mir.Val.{of_z, to_z}

pub returns-then-rows-eq0-clause-total : goal.returns-then-rows-eq0-clause-total
returns-then-rows-eq0-clause-total g c need all summed =
    let codes = (g.C.CodeColumn.seen c.args.column.now).codes in
    let long : length (take c.args.n (drop c.args.at codes)) ≡ c.args.n = omega (arith, length-take c.args.n (drop c.args.at codes), length-drop c.args.at codes, c.requires.inside) in
    entries_none need all c.args.at c.args.n summed.same (omega (arith, summed.inside, long))
    (λ i h. summed.each i (omega (arith, h, long)) ∙ rw (c.if-rows-eq0.true, bit_of_zero i) refl)

pub returns-clause-total : goal.returns-clause-total
returns-clause-total g c need all summed =
    let codes = (g.C.CodeColumn.seen c.args.column.now).codes in
    let out = c.read.new.out in
    let long : length out ≡ c.args.n = search rules in
    let is : out ≡ take c.args.n (drop c.args.at codes) = search rules in
    let whole : to_z w128 (of_z w128 c.entries_in.result) ≡ c.entries_in.result = omega (arith, ints, c.entries_in.ensures.small) in
    rw whole (subst (λ k. value_total need all (c.args.at + k) ≡ value_total need all c.args.at +ℤ c.entries_in.result) long
    (c.entries_in.ensures.total need all c.args.at (subst (λ cs. AreSummed need all c.args.at c.args.entries.now cs c.args.rows) (sym is) summed)))
