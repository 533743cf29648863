use Rattle.std.proofs.Common.{map, take, ◌++◌, ◌≡◌}
use Rattle.std.specs.List.{All}
use Rattle.bw_mask.specs.Masks.{row_at}
use Rattle.bw_engine.specs.AnswerCells.{collected}
use Rattle.bw_engine.specs.Found.{rows_where}
use Rattle.bw_engine.specs.GroupLines.{TellGroups, cells_to, told_at}
use Rattle.bw_engine.specs.Stores.{rows_of_slots}
use Rattle.bw_engine.proofs.grouped.cells_of_groups.Given as goal

abbrev pub invariant-groups : goal.invariant-groups
invariant-groups l = record {
  cells : collected l.cells ≡ cells_to (rows_where (row_at l.found) (rows_of_slots l.table.slots)) l.groups l.items l.g;
  columns : All (λ column. TellGroups (rows_where (row_at l.found) (rows_of_slots l.table.slots)) l.groups l.items column.place column.folds) l.columns.items;
}

abbrev pub invariant-items : goal.invariant-items
invariant-items l = record {
  cells : collected l.cells ≡ cells_to (rows_where (row_at l.found) (rows_of_slots l.table.slots)) l.groups l.items l.g ++ map (told_at (rows_where (row_at l.found) (rows_of_slots l.table.slots)) l.groups l.g) (take l.i l.items);
  columns : All (λ column. TellGroups (rows_where (row_at l.found) (rows_of_slots l.table.slots)) l.groups l.items column.place column.folds) l.columns.items;
}
