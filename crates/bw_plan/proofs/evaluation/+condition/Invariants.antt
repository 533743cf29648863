use Rattle.std.proofs.Common.{drop, map, ◌≡◌}
use Rattle.bw_mask.specs.Masks.{row_at}
use Rattle.bw_mask.specs.Truth.{and_of, or_of}
use Rattle.bw_mask.specs.declared.truth_value.TruthValue.TheVariants.{False, True}
use Rattle.bw_code.specs.Meters.{raised}
use Rattle.bw_table.specs.Slots.{slot_at}
use Rattle.bw_plan.specs.Costs.{units_of_each, units_of_some}
use Rattle.bw_plan.specs.Plans.{each_by, plan_of, plans_of, some_by}
use Rattle.bw_plan.proofs.Shrinking.{AreOpen}
use Rattle.bw_plan.proofs.evaluation.+condition.Given as goal

-- the parts so far and those that are left give the truth of the whole, and its units
abbrev pub invariant-set_each-loop-part : goal.invariant-set_each-loop-part
invariant-set_each-loop-part l = record {
  open_rows : AreOpen and_of False l.need l.rest (λ i. each_by (plans_of (map plan_of (drop l.part-index l.others))) (slot_at l.slots.slots i).row) (λ i. each_by (plans_of (map plan_of l.parts)) (slot_at l.slots.slots i).row) l.said l.truth;
  units : raised l.meter (units_of_each (plans_of (map plan_of (drop l.part-index l.others))) l.slots (row_at l.rest)) ≡ raised l.fn.meter (units_of_each (plans_of (map plan_of l.parts)) l.slots (row_at l.need));
  within : l.meter ≡ raised l.meter 0;
}

-- the parts so far and those that are left give the truth of the whole, and its units
abbrev pub invariant-set_some-loop-part : goal.invariant-set_some-loop-part
invariant-set_some-loop-part l = record {
  open_rows : AreOpen or_of True l.need l.rest (λ i. some_by (plans_of (map plan_of (drop l.part-index l.others))) (slot_at l.slots.slots i).row) (λ i. some_by (plans_of (map plan_of l.parts)) (slot_at l.slots.slots i).row) l.said l.truth;
  units : raised l.meter (units_of_some (plans_of (map plan_of (drop l.part-index l.others))) l.slots (row_at l.rest)) ≡ raised l.fn.meter (units_of_some (plans_of (map plan_of l.parts)) l.slots (row_at l.need));
  within : l.meter ≡ raised l.meter 0;
}
