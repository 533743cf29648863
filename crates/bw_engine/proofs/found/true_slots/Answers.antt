use Rattle.std.proofs.lemmas.Result.{IfOk-weaker}
use Rattle.bw_column.specs.Comparisons.{AreTrueAt}
use Rattle.bw_plan.specs.Operands.{truth_in}
use Rattle.bw_plan.specs.Plans.{plan_of}
use Rattle.std.proofs.Common.{Some}
use Rattle.bw_engine.specs.Stores.{AreFoundIn}
use Rattle.bw_engine.proofs.FoundLaws.{true_found}
use Rattle.bw_engine.proofs.found.true_slots.Goals as goal

pub returns : goal.returns
returns c =
    let slots = c.args.slots.now.slots in
    let plan = plan_of c.args.condition.now in
    IfOk-weaker c.find.result (AreTrueAt c.args.live.now (truth_in plan slots)) (AreFoundIn slots (Some plan))
    (λ mask are. true_found slots c.args.live.now c.requires.len c.requires.live plan mask are) c.find.ensures.found
