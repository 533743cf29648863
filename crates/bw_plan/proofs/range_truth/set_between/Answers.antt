use Rattle.std.proofs.Common.{FitsSigned, Some, ap, of_z, rules, sym, to_z, w64, ◌∙◌}
use Rattle.std.proofs.lemmas.Int.{to_z-of_z}
use Rattle.bw_column.specs.Values.{value_at}
use Rattle.bw_plan.specs.Operands.{operand_at}
use Rattle.bw_plan.proofs.Comparing.{within}
use Rattle.bw_plan.proofs.Counting.{number_at}
use Rattle.bw_plan.proofs.range_truth.set_between.Goals as goal

pub returns-clause-truth : goal.returns-clause-truth
returns-clause-truth c =
    let arm = c.in-Column-Some-Some in
    let x = arm.first in
    let y = arm.last in
    let x_fits : FitsSigned w64 x = search rules in
    let y_fits : FitsSigned w64 y = search rules in
    let low = sym c.number.ensures ∙ arm.is-1 ∙ ap Some (sym (to_z-of_z w64 x x_fits)) in
    let high = sym c.number-2.ensures ∙ arm.is-2 ∙ ap Some (sym (to_z-of_z w64 y y_fits)) in
    within c.args.need.now c.range_in.new.truth (value_at arm.column.now.values) (operand_at c.args.value.now) (operand_at c.args.low.now) (operand_at c.args.high.now)
    (to_z w64 (of_z w64 x)) (to_z w64 (of_z w64 y)) (λ i. ap (λ o. operand_at o i) arm.is-0)
    (number_at c.args.low.now (to_z w64 (of_z w64 x)) low) (number_at c.args.high.now (to_z w64 (of_z w64 y)) high) c.range_in.ensures.truth
