use Rattle.std.proofs.Common.{◌∙◌}
use Rattle.bw_code.specs.Meters.{raised}
use Rattle.bw_plan.specs.Costs.{units_by}
use Rattle.bw_plan.specs.Plans.{plan_of}
use Rattle.bw_engine.proofs.Counted.{live_is}
use Rattle.bw_engine.proofs.stats.units_at_live.Goals as goal

pub returns : goal.returns
returns c =
    let slots = c.args.slots.now in
    c.units.ensures ∙ c.in_ok-evaluate.ensures.units
    ∙ (λ j. raised (c.new-meter.ensures j) (units_by (plan_of c.args.condition.now) slots (live_is slots.slots c.args.live.now c.requires.len c.requires.live j)))
