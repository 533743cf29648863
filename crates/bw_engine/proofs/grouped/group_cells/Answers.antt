use Rattle.std.proofs.Common.{Some, ap, length, map, ◌≡◌, ◌∙◌}
use Rattle.std.proofs.lemmas.Result.{IfOk-weaker}
use Rattle.bw_mask.specs.Masks.{row_at}
use Rattle.bw_model.specs.Groups.{groups_by}
use Rattle.bw_sql.specs.Rows.{joined}
use Rattle.bw_engine.specs.AnswerCells.{collected}
use Rattle.bw_engine.specs.Folds.{told_in}
use Rattle.bw_engine.specs.Found.{rows_where}
use Rattle.bw_engine.specs.GroupLines.{cells_to}
use Rattle.bw_engine.specs.Stores.{rows_of_slots}
use Rattle.bw_engine.proofs.GroupShows.{cells_of_all}
use Rattle.bw_engine.proofs.grouped.group_cells.Goals as goal

pub returns : goal.returns
returns c =
    let rows = rows_where (row_at c.args.found.now) (rows_of_slots c.args.table.now.slots) in
    let items = c.args.plan.now.items.items in
    let are = c.in_ok-groups.ensures.groups in
    IfOk-weaker c.cells_of_groups.result (λ cells. collected cells ≡ cells_to rows c.in_ok-groups.groups c.as_slice.result.now (length c.in_ok-groups.groups.values))
    (λ cells. collected cells ≡ joined (map (λ group. map (told_in group) items) (groups_by (Some c.args.plan.now.by) rows)))
    (λ cells h. h ∙ ap (λ is. cells_to rows c.in_ok-groups.groups is (length c.in_ok-groups.groups.values)) c.as_slice.ensures.value ∙ cells_of_all c.args.plan.now.by rows c.in_ok-groups.groups are items)
    c.cells_of_groups.ensures
