use Rattle.std.proofs.Common.{◌≡◌, map, take}
use Rattle.bw_sql.specs.Rows.{joined}
use Rattle.bw_model.specs.Select.{said_in}
use Rattle.bw_model.proofs.select.lines_in.Given as goal

abbrev pub invariant-loop-group : goal.invariant-loop-group
invariant-loop-group l = l.cells.items ≡ joined (map (λ group. map (said_in l.headers group) l.list) (take l.group-index l.groups))
