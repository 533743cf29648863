use Rattle.std.proofs.Common.{◌≡◌, map, take}
use Rattle.bw_model.specs.Select.{said_in}
use Rattle.bw_model.proofs.select.said_in_each.Given as goal

abbrev pub invariant-loop-item : goal.invariant-loop-item
invariant-loop-item l = l.cells.items ≡ map (said_in l.headers l.group) (take l.item-index l.list)
