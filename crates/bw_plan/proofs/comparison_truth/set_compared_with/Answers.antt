use Rattle.std.proofs.Common.{FitsSigned, Some, ap, of_z, rules, sym, to_z, w64, ◌∙◌}
use Rattle.std.proofs.lemmas.Int.{to_z-of_z}
use Rattle.bw_code.specs.Meters.{raised}
use Rattle.bw_column.specs.Costs.{units_of_comparison}
use Rattle.bw_column.specs.Values.{value_at}
use Rattle.bw_plan.proofs.Comparing.{one_side}
use Rattle.bw_plan.proofs.Counting.{units_of_number}
use Rattle.bw_plan.proofs.comparison_truth.set_compared_with.Goals as goal

pub returns-in-Some-clause-truth : goal.returns-in-Some-clause-truth
returns-in-Some-clause-truth c =
    let x = c.in-Some.constant in
    let fits : FitsSigned w64 x = search rules in
    one_side c.args.need.now c.compare_in.new.truth c.comparison.result c.args.sign c.comparison.ensures (value_at c.args.column.now.values)
    (to_z w64 (of_z w64 x)) c.args.value (c.in-Some.is ∙ ap Some (sym (to_z-of_z w64 x fits))) c.compare_in.ensures.truth

pub returns-in-Some-clause-units : goal.returns-in-Some-clause-units
returns-in-Some-clause-units c =
    let x = c.in-Some.constant in
    let fits : FitsSigned w64 x = search rules in
    let z = to_z w64 (of_z w64 x) in
    c.compare_in.ensures.units
    ∙ ap (λ op. raised c.args.meter.now (units_of_comparison c.args.column.now op z c.args.need.now)) c.comparison.ensures
    ∙ ap (raised c.args.meter.now) (units_of_number c.args.sign c.args.column.now c.args.value z c.args.need.now (c.in-Some.is ∙ ap Some (sym (to_z-of_z w64 x fits))))
