use Rattle.std.proofs.Common.{ap, subst, sym, ◌∙◌, ◌≡◌, Contains}
use Rattle.bw_mask.specs.Masks.{row_at}
use Rattle.bw_model.specs.Select.{shown}
use Rattle.bw_plan.specs.declared.grouping.GroupItem.TheVariants as grouped
use Rattle.bw_plan.specs.declared.select.FunctionPlan.TheVariants as function
use Rattle.bw_engine.specs.Folds.{told_by}
use Rattle.bw_engine.specs.Found.{rows_where}
use Rattle.bw_engine.specs.GroupLines.{TellGroups, told_at}
use Rattle.bw_engine.specs.Stores.{rows_of_slots}
use Rattle.bw_engine.specs.declared.grouped.GroupedColumn.{GroupedColumn}
use Rattle.bw_engine.proofs.grouped.item_number.Goals as goal

pub returns-in_ok-i-in-Function-Of-clause-number : goal.returns-in_ok-i-in-Function-Of-clause-number
returns-in_ok-i-in-Function-Of-clause-number c =
    let rows = rows_where (row_at c.args.found.now) (rows_of_slots c.args.table.now.slots) in
    let groups = c.args.groups.now in
    let items = c.args.items.now in
    let g = c.args.g in
    let f = c.in-Function-Of.function in
    let place = c.in-Function-Of.place in
    let i = c.in_ok-i-in-Function-Of.i in
    let column = c.index.result.now in
    let at = c.in_ok-i-in-Function-Of.ensures.at in
    let is : c.args.item ≡ grouped.Function (function.Of f place) = c.in-Function-Of.is ∙ ap grouped.Function (rw c.in-Function-Of.is at c.in-Function-Of.field-0-is) in
    let there : Contains items (grouped.Function (function.Of f place)) = subst (Contains items) is c.requires.among in
    let here : column.place ≡ place = ap (λ (one : GroupedColumn). one.place) c.index.ensures ∙ at.1 column in
    let told : TellGroups rows groups items column.place column.folds = subst (λ (one : GroupedColumn). TellGroups rows groups items one.place one.folds) (sym c.index.ensures) (c.in_ok-i-in-Function-Of.ensures.columns i column at.0) in
    let tell : TellGroups rows groups items place column.folds = subst (λ p. TellGroups rows groups items p column.folds) here told in
    ap shown (c.told_by.ensures ∙ ap (told_by f) (c.summary-summary.ensures c.summary-summary.result) ∙ tell.each g f c.summary-summary.result c.requires.group there)
    ∙ ap (told_at rows groups g) (sym is)
