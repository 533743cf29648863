use Rattle.std.proofs.Common.{ap, arith, false, is_some, length, map, pos, take, ◌++◌, ◌∙◌, ◌≡◌}
use Rattle.bw_groups.proofs.Values.{front_is, number_of, values_more}
use Rattle.bw_groups.proofs.column_values.ColumnValues.with_run.Goals as goal

pub returns : goal.returns
returns c =
    let run = c.args.run.now in
    let numbers : take (length run) c.run.new_numbers ≡ map number_of run = front_is number_of (pos 0) run c.run.new_numbers (omega (arith, c.run.invariant.wide, c.requires)) (λ k h. c.run.invariant.numbers k (omega (arith, h, c.run-test.false, c.run.auto.i-end))) in
    let known : take (length run) c.run.new_known ≡ map is_some run = front_is is_some false run c.run.new_known (omega (arith, c.run.invariant.wide_too, c.requires)) (λ k h. c.run.invariant.known k (omega (arith, h, c.run-test.false, c.run.auto.i-end))) in
    rw (c.in_ok-extend_from_slice.ensures.items, c.in_ok-extend_from_slice-2.ensures.items, numbers, known)
    (values_more c.self.inside.numbers.items c.self.inside.known.items run c.self.invariant ∙ ap (λ vs. vs ++ run) c.self.view_is)
