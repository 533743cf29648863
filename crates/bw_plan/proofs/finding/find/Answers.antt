use Rattle.bw_plan.specs.Operands.{truth_in}
use Rattle.bw_plan.specs.Plans.{plan_of}
use Rattle.bw_plan.proofs.FoundRows.{found_by_truths}
use Rattle.bw_plan.proofs.finding.find.Goals as goal

pub returns-clause-found : goal.returns-clause-found
returns-clause-found c =
    found_by_truths c.args.need.now (truth_in (plan_of c.args.condition.now) c.args.slots.now.slots) c.in_ok-evaluate.field-0 c.into_trues.result
    c.in_ok-evaluate.ensures.truths c.into_trues.ensures.len c.into_trues.ensures.rows
