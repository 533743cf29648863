use Rattle.std.proofs.Common.{◌≡◌, Some, map, take}
use Rattle.bw_plan.specs.Selections.{grouped_item}
use Rattle.bw_plan.proofs.grouping.group_items.Given as goal

abbrev pub invariant-loop-item : goal.invariant-loop-item
invariant-loop-item l = map (λ i. Some i) l.items.items ≡ map (grouped_item l.headers) (take l.item-index l.list)
