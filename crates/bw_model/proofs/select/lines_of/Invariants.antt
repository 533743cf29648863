use Rattle.std.proofs.Common.{◌≡◌, map, take}
use Rattle.bw_sql.specs.Rows.{joined}
use Rattle.bw_model.specs.Select.{line_of}
use Rattle.bw_model.proofs.select.lines_of.Given as goal

abbrev pub invariant-loop-row : goal.invariant-loop-row
invariant-loop-row l = l.cells.items ≡ joined (map (line_of l.headers l.list) (map (λ row. row.now) (take l.row-index l.rows)))
