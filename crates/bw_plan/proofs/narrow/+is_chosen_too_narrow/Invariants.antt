use Rattle.std.proofs.Common.{length}
use Rattle.bw_plan.proofs.narrow.+is_chosen_too_narrow.Given as goal

abbrev pub decreases-is_chosen_too_narrow : goal.decreases-is_chosen_too_narrow
decreases-is_chosen_too_narrow l = length l.choices.now
