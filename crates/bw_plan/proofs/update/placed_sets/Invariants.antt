use Rattle.std.proofs.Common.{take}
use Rattle.bw_plan.specs.Sets.{AreSetsFor}
use Rattle.bw_plan.proofs.update.placed_sets.Given as goal

abbrev pub invariant-loop-set : goal.invariant-loop-set
invariant-loop-set l = AreSetsFor l.headers (take l.set-index l.sets) l.placed.items
