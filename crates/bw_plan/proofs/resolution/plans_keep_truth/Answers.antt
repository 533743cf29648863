use Rattle.bw_plan.proofs.PlanLaws.{keeps_truth}
use Rattle.bw_plan.proofs.resolution.plans_keep_truth.Goals as goal

pub returns : goal.returns
returns c = keeps_truth
