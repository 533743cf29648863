use Rattle.std.proofs.Common.{◌≡◌, map, take}
use Rattle.std.specs.List.{All}
use Rattle.bw_mask.specs.Masks.{row_at}
use Rattle.bw_engine.specs.Folds.{Tells, number_by}
use Rattle.bw_engine.specs.Found.{rows_where}
use Rattle.bw_engine.specs.Stores.{rows_of_slots}
use Rattle.bw_engine.proofs.set_functions.numbers.Given as goal

abbrev pub invariant-loop-i : goal.invariant-loop-i
invariant-loop-i l = record {
  numbers : l.numbers.items ≡ map (number_by (rows_where (row_at l.found) (rows_of_slots l.table.slots))) (take l.i l.functions);
  told : All (Tells (rows_where (row_at l.found) (rows_of_slots l.table.slots)) l.functions) l.columns.items;
}
