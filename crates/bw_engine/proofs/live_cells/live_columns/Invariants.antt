use Rattle.std.proofs.Common.{◌≡◌, map, take}
use Rattle.std.specs.List.{AllZip, range_with_len}
use Rattle.bw_code.specs.Types.{IsTyped}
use Rattle.bw_model.specs.Filing.{column_of}
use Rattle.bw_engine.specs.Saving.{saved_cells}
use Rattle.bw_engine.specs.Stores.{rows_in}
use Rattle.bw_engine.proofs.live_cells.live_columns.Given as goal

abbrev pub invariant-loop-k : goal.invariant-loop-k
invariant-loop-k l = record {
  cells : map saved_cells l.columns.items ≡ map (column_of (rows_in l.table.slots)) (range_with_len 0 l.k);
  typed : AllZip IsTyped (take l.k l.table.headers) (map saved_cells l.columns.items);
}
