use Rattle.bw_mask.proofs.Tables.{not_of_not_of, not_of_and_of, not_of_or_of}
use Rattle.bw_mask.proofs.laws.not_of_truths.Goals as goal

pub returns : goal.returns
returns c = record { twice = not_of_not_of; over_and = not_of_and_of; over_or = not_of_or_of }
