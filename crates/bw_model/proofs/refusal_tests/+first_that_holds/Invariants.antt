use Rattle.std.proofs.Common.{length}
use Rattle.bw_model.proofs.refusal_tests.+first_that_holds.Given as goal

abbrev pub decreases-first_that_holds : goal.decreases-first_that_holds
decreases-first_that_holds l = length l.tests.now
