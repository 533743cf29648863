use Rattle.std.proofs.Common.{length}
use Rattle.bw_plan.proofs.rebuild.+is_chosen_twice.Given as goal

abbrev pub decreases-is_chosen_twice : goal.decreases-is_chosen_twice
decreases-is_chosen_twice l = length l.choices.now
