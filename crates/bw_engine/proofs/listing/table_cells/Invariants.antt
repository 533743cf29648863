use Rattle.std.proofs.Common.{◌≡◌, map, take}
use Rattle.bw_sql.specs.Rows.{joined}
use Rattle.bw_model.specs.Listing.{table_line}
use Rattle.bw_engine.specs.Stores.{store_of}
use Rattle.bw_engine.proofs.listing.table_cells.Given as goal

-- the lines of the tables before this one
abbrev pub invariant-loop-i : goal.invariant-loop-i
invariant-loop-i l = l.cells.items ≡ joined (map table_line (take l.i (store_of l.tables.entries)))
