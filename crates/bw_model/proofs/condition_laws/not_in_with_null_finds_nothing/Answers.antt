use Rattle.bw_model.proofs.ConditionLaws.{nothing_found}
use Rattle.bw_model.proofs.condition_laws.not_in_with_null_finds_nothing.Goals as goal

pub returns : goal.returns
returns c = nothing_found
