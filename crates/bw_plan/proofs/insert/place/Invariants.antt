use Rattle.std.proofs.Common.{◌≡◌, ◌++◌, map, take}
use Rattle.bw_model.specs.Store.{value_from}
use Rattle.bw_plan.proofs.insert.place.Given as goal

abbrev pub invariant-loop-source : goal.invariant-loop-source
invariant-loop-source l = l.cells.items ≡ l.fn.cells.items ++ map (value_from l.row) (take l.source-index l.sources)
