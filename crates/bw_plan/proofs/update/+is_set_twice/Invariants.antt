use Rattle.std.proofs.Common.{length}
use Rattle.bw_plan.proofs.update.+is_set_twice.Given as goal

abbrev pub decreases-is_set_twice : goal.decreases-is_set_twice
decreases-is_set_twice l = length l.sets.now
