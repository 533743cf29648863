use Rattle.std.proofs.Common.{IfOk, ap, arith, length, map, subst, ◌∙◌, ◌≡◌, ◌≤◌, ◌^◌}
use Rattle.std.proofs.lemmas.List.{length-map}
use Rattle.bw_mask.specs.Masks.{row_at}
use Rattle.bw_column.specs.Values as columns
use Rattle.bw_groups.specs.Grouping.{AreGroups}
use Rattle.bw_table.specs.Slots.{Slot}
use Rattle.bw_model.specs.Store.{Row, value_at}
use Rattle.bw_engine.specs.Found.{rows_where}
use Rattle.bw_engine.specs.Runs.{slots_of}
use Rattle.bw_engine.specs.Stores.{rows_of_slots}
use Rattle.bw_engine.proofs.CellLaws.{column_found, slots_long}
use Rattle.bw_engine.proofs.FoundRuns.{runs_few}
use Rattle.bw_engine.proofs.grouped.groups_of.Goals as goal

pub of-requires : goal.of-requires
of-requires c =
    let slots = c.args.table.now.slots in
    let values = c.column-column.result.now.values in
    let long : length values ≡ length slots = ap length c.column-column.ensures.values ∙ length-map (map (λ (slot : Slot). slot.row) slots) (λ (row : Row). columns.value_at row c.args.by) ∙ length-map slots (λ (slot : Slot). slot.row) in
    omega (arith, runs_few 0 (slots_of values) (row_at c.args.found.now), slots_long values, long, c.slot_count-few.ensures.count, c.slot_count-few.ensures.few)

pub returns-in-Offset-clause-groups : goal.returns-in-Offset-clause-groups
returns-in-Offset-clause-groups c =
    let is = column_found c.args.by c.args.table.now.slots c.column-column.result.now.values (row_at c.args.found.now) c.column-column.ensures.values in
    subst (λ values. IfOk c.of.result (AreGroups values)) is c.of.ensures.groups

pub returns-in-Offset-clause-rows : goal.returns-in-Offset-clause-rows
returns-in-Offset-clause-rows c =
    let passes = row_at c.args.found.now in
    let is = column_found c.args.by c.args.table.now.slots c.column-column.result.now.values passes c.column-column.ensures.values in
    subst (λ n. IfOk c.of.result (λ groups. length groups.ranks ≡ n)) (ap length is ∙ length-map (rows_where passes (rows_of_slots c.args.table.now.slots)) (λ (row : Row). value_at row c.args.by)) c.of.ensures.rows

pub returns-in-Dictionary-clause-groups : goal.returns-in-Dictionary-clause-groups
returns-in-Dictionary-clause-groups c =
    let is = column_found c.args.by c.args.table.now.slots c.column-column.result.now.values (row_at c.args.found.now) c.column-column.ensures.values in
    subst (λ values. IfOk c.groups_by_codes.result (AreGroups values)) is c.groups_by_codes.ensures.groups

pub returns-in-Dictionary-clause-rows : goal.returns-in-Dictionary-clause-rows
returns-in-Dictionary-clause-rows c =
    let passes = row_at c.args.found.now in
    let is = column_found c.args.by c.args.table.now.slots c.column-column.result.now.values passes c.column-column.ensures.values in
    subst (λ n. IfOk c.groups_by_codes.result (λ groups. length groups.ranks ≡ n)) (ap length is ∙ length-map (rows_where passes (rows_of_slots c.args.table.now.slots)) (λ (row : Row). value_at row c.args.by)) c.groups_by_codes.ensures.rows
