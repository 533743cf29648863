use Rattle.std.proofs.Common.{ap, ◌∙◌, sym, subst, List}
use Rattle.bw_code.specs.Meters.{raised}
use Rattle.bw_column.specs.Costs.{units_of_list}
use Rattle.bw_column.specs.Comparisons.{AreTruthsAt}
use Rattle.bw_column.specs.Values.{value_at}
use Rattle.bw_mask.specs.declared.truth_value.TruthValue.{TruthValue}
use Rattle.bw_model.specs.Condition.{is_one_of}
use Rattle.bw_plan.proofs.Listing.{all_listed, some_listed}
use Rattle.bw_plan.proofs.list_truth.set_column_listed.Goals as goal
use Rattle.bw_plan.proofs.list_truth.set_column_listed.Goals.{else-has_null, then-has_null}

pub returns-clause-truth : goal.returns-clause-truth
returns-clause-truth c =
    let need = c.args.need.now in
    let entries = c.args.entries.now in
    let values = value_at c.args.column.now.values in
    let numbers = c.deref.result.now in
    let known_are = c.deref.ensures.value ∙ c.in_ok-numbers.ensures in
    let truths = c.in_list_in.new.truth in
    elim c.if-has_null.branch [
      | then-has_null w ↦ subst (λ (found : List TruthValue). AreTruthsAt need (λ i. is_one_of (values i) entries) found) (sym w.truth-is)
          (some_listed need entries c.requires.some values numbers known_are truths c.in_list_in.ensures.truth w.forget_falses.new.self (sym c.has_null.ensures ∙ w.if-has_null.true) w.forget_falses.ensures.len w.forget_falses.ensures.rows)
      | else-has_null w ↦ subst (λ (found : List TruthValue). AreTruthsAt need (λ i. is_one_of (values i) entries) found) (sym w.truth-is)
          (all_listed need entries c.requires.some values numbers known_are truths c.in_list_in.ensures.truth (sym c.has_null.ensures ∙ w.if-has_null.false))
    ]

pub returns-clause-units : goal.returns-clause-units
returns-clause-units c = c.in_list_in.ensures.units ∙ ap (λ numbers. raised c.args.meter.now (units_of_list c.args.column.now numbers c.args.need.now)) (c.deref.ensures.value ∙ c.in_ok-numbers.ensures)
