use Rattle.std.proofs.Common.{◌≡◌, map, take}
use Rattle.bw_model.specs.Select.{said_of}
use Rattle.bw_model.proofs.select.said_of_each.Given as goal

abbrev pub invariant-loop-item : goal.invariant-loop-item
invariant-loop-item l = l.cells.items ≡ map (said_of l.headers (map (λ row. row.now) l.rows)) (take l.item-index l.list)
