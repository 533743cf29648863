use Rattle.std.proofs.Common.{Some, ap₂, of_z, subst, to_z, w64, ℕ, ◌≡◌, ◌∙◌}
use Rattle.std.specs.Prelude.{OnOk}
use Rattle.std.proofs.lemmas.Int.{to_z-of_z}
use Rattle.std.proofs.lemmas.Result.{IfOk-weaker}
use Rattle.bw_mask.specs.declared.truth_value.TruthValue.{TruthValue}
use Rattle.bw_code.specs.Meters.{raised}
use Rattle.bw_column.specs.Comparisons as column
use Rattle.bw_column.specs.Costs.{units_of_range}
use Rattle.bw_column.specs.Values.{value_at}
use Rattle.bw_model.specs.Condition.{lies_between}
use Rattle.bw_plan.proofs.Comparing.{range_compared}
use Rattle.bw_plan.proofs.FoundRows.{same_found}
use Rattle.bw_plan.proofs.finding.rows_between.Goals as goal

pub returns-clause-found : goal.returns-clause-found
returns-clause-found c =
    let need = c.args.need.now in
    let x = c.args.low in
    let y = c.args.high in
    let x_is : to_z w64 (of_z w64 x) ≡ x = to_z-of_z w64 x c.ranges.low in
    let y_is : to_z w64 (of_z w64 y) ≡ y = to_z-of_z w64 y c.ranges.high in
    let values = value_at c.args.column.now.values in
    let has : ℕ → TruthValue = λ i. column.lies_between (to_z w64 (of_z w64 x)) (to_z w64 (of_z w64 y)) (values i) in
    let wants : ℕ → TruthValue = λ i. lies_between (values i) (Some x) (Some y) in
    IfOk-weaker c.rows_between.result (column.AreTrueAt need has) (column.AreTrueAt need wants)
    (λ found are. same_found need has wants found (λ i. ap₂ (λ l h. column.lies_between l h (values i)) x_is y_is ∙ range_compared (values i) x y) are)
    c.rows_between.ensures.found

pub returns-clause-units : goal.returns-clause-units
returns-clause-units c =
    let x_is : to_z w64 (of_z w64 c.args.low) ≡ c.args.low = to_z-of_z w64 c.args.low c.ranges.low in
    let y_is : to_z w64 (of_z w64 c.args.high) ≡ c.args.high = to_z-of_z w64 c.args.high c.ranges.high in
    subst (λ u. OnOk c.rows_between.result (c.rows_between.new.meter ≡ raised c.args.meter.now u)) (ap₂ (λ l h. units_of_range c.args.column.now l h c.args.need.now) x_is y_is) c.rows_between.ensures.units
