use Rattle.std.proofs.Common.{◌≡◌, map, take}
use Rattle.bw_sql.specs.Tree.{condition_of}
use Rattle.bw_plan.specs.Plans.{plan_of, planned}
use Rattle.bw_plan.proofs.resolution.+placed.Given as goal

-- the plans of the parts before this one
abbrev pub invariant-loop-part : goal.invariant-loop-part
invariant-loop-part l = map plan_of l.plans.items ≡ map (planned l.headers) (map condition_of (take l.part-index l.part-items))

abbrev pub invariant-loop-part-2 : goal.invariant-loop-part-2
invariant-loop-part-2 l = map plan_of l.plans.items ≡ map (planned l.headers) (map condition_of (take l.part-index l.part-items))
