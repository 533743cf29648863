use Rattle.std.proofs.Common.{length}
use Rattle.bw_model.proofs.refusal_tests.+are_of_types.Given as goal

abbrev pub decreases-are_of_types : goal.decreases-are_of_types
decreases-are_of_types l = length l.types.now
