use Rattle.bw_model.proofs.ConditionLaws.{run_of_or}
use Rattle.bw_model.proofs.condition_laws.in_is_a_run_of_or.Goals as goal

pub returns : goal.returns
returns c = run_of_or
