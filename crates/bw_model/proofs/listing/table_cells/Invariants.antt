use Rattle.std.proofs.Common.{◌≡◌, map, take}
use Rattle.bw_sql.specs.Rows.{joined}
use Rattle.bw_model.specs.Listing.{table_line}
use Rattle.bw_model.proofs.listing.table_cells.Given as goal

abbrev pub invariant-loop-name : goal.invariant-loop-name
invariant-loop-name l = l.cells.items ≡ joined (map table_line (take l.name-index l.tables))
