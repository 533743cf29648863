use Rattle.std.proofs.Common.{map, length}
use Rattle.bw_model.specs.Store.{value_from}
use Rattle.bw_plan.proofs.Lines.{Walks}
use Rattle.bw_plan.proofs.insert.spread.Given as goal

abbrev pub invariant-loop-rest : goal.invariant-loop-rest
invariant-loop-rest l = Walks (λ row. map (value_from row) l.sources) l.width l.values l.rest l.cells.items

abbrev pub decreases-loop-rest : goal.decreases-loop-rest
decreases-loop-rest l = length l.rest
