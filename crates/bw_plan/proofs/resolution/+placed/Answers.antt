use Rattle.std.proofs.Common.{◌∙◌, ap, sym, map, arith}
use Rattle.bw_sql.specs.Tree.{condition_of}
use Rattle.bw_plan.specs.Plans.{each_of, plan_of, planned, some_of}
use Rattle.bw_plan.proofs.PlanLaws.{opened_and, opened_or, plan_and, plan_or, plans_whole}
use Rattle.bw_plan.proofs.resolution.+placed.Goals as goal

pub returns-after-loop-part : goal.returns-after-loop-part
returns-after-loop-part t c =
    let h = c.args.headers.now in
    plan_and c.loop-part.plans
    ∙ ap each_of (plans_whole h (map plan_of c.loop-part.plans.items) c.in-And.parts.items c.deref-part-items.result.now c.loop-part.part-index c.loop-part.invariant c.deref-part-items.ensures.value (omega (arith, c.loop-part-test.false)))
    ∙ sym (ap (planned h) (ap condition_of c.in-And.is ∙ opened_and c.in-And.parts))

pub returns-after-loop-part-2 : goal.returns-after-loop-part-2
returns-after-loop-part-2 t c =
    let h = c.args.headers.now in
    plan_or c.loop-part-2.plans
    ∙ ap some_of (plans_whole h (map plan_of c.loop-part-2.plans.items) c.in-Or.parts.items c.deref-part-items-in-Or.result.now c.loop-part-2.part-index c.loop-part-2.invariant c.deref-part-items-in-Or.ensures.value (omega (arith, c.loop-part-2-test.false)))
    ∙ sym (ap (planned h) (ap condition_of c.in-Or.is ∙ opened_or c.in-Or.parts))
