use Rattle.std.proofs.Common.{Some, ap, of_z, subst, sym, to_z, w64, ℕ, ◌≡◌, ◌∙◌}
use Rattle.std.specs.Prelude.{OnOk}
use Rattle.std.proofs.lemmas.Int.{to_z-of_z}
use Rattle.std.proofs.lemmas.Result.{IfOk-weaker}
use Rattle.bw_mask.specs.Masks.{row_at}
use Rattle.bw_mask.specs.declared.truth_value.TruthValue.{TruthValue}
use Rattle.bw_code.specs.Meters.{raised}
use Rattle.bw_column.specs.Comparisons.{AreTrueAt, compared_with}
use Rattle.bw_column.specs.Costs.{units_of_comparison}
use Rattle.bw_column.specs.Values.{value_at}
use Rattle.bw_model.specs.Condition.{compared}
use Rattle.bw_plan.specs.Costs.{of_column, of_constant, units_of_compared}
use Rattle.bw_plan.proofs.Comparing.{one_compared}
use Rattle.bw_plan.proofs.Counting.{units_of_number}
use Rattle.bw_plan.proofs.FoundRows.{same_found}
use Rattle.bw_plan.proofs.finding.rows_compared.Goals as goal

pub returns-clause-found : goal.returns-clause-found
returns-clause-found c =
    let need = c.args.need.now in
    let x = c.args.constant in
    let z = to_z w64 (of_z w64 x) in
    let v : z ≡ x = to_z-of_z w64 x c.ranges.constant in
    let sign = c.args.sign in
    let values = value_at c.args.column.now.values in
    let has : ℕ → TruthValue = λ i. compared_with c.comparison.result z (values i) in
    let wants : ℕ → TruthValue = λ i. compared sign (values i) (Some x) in
    IfOk-weaker c.rows_compared.result (AreTrueAt need has) (AreTrueAt need wants)
    (λ found are. same_found need has wants found (λ i. ap (λ op. compared_with op z (values i)) c.comparison.ensures ∙ one_compared sign (values i) z ∙ ap (λ k. compared sign (values i) (Some k)) v) are)
    c.rows_compared.ensures.found

pub returns-clause-units : goal.returns-clause-units
returns-clause-units c =
    let need = c.args.need.now in
    let x = c.args.constant in
    let z = to_z w64 (of_z w64 x) in
    let column = c.args.column.now in
    let same : units_of_comparison column c.comparison.result z need ≡ units_of_compared (of_column column) c.args.sign (of_constant (Some x)) (row_at need) =
    ap (λ op. units_of_comparison column op z need) c.comparison.ensures ∙ units_of_number c.args.sign column (Some x) z need (ap Some (sym (to_z-of_z w64 x c.ranges.constant))) in
    subst (λ u. OnOk c.rows_compared.result (c.rows_compared.new.meter ≡ raised c.args.meter.now u)) same c.rows_compared.ensures.units
