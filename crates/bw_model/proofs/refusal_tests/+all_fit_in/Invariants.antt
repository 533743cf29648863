use Rattle.std.proofs.Common.{length}
use Rattle.bw_model.proofs.refusal_tests.+all_fit_in.Given as goal

abbrev pub decreases-all_fit_in : goal.decreases-all_fit_in
decreases-all_fit_in l = length l.found.now
