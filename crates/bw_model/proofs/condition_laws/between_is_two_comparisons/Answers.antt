use Rattle.bw_model.proofs.ConditionLaws.{two_comparisons}
use Rattle.bw_model.proofs.condition_laws.between_is_two_comparisons.Goals as goal

pub returns : goal.returns
returns c = two_comparisons
