use Rattle.std.proofs.Common.{◌≡◌, Some, map, take}
use Rattle.bw_plan.specs.Selections.{placed_item}
use Rattle.bw_plan.proofs.select.functions_in.Given as goal

abbrev pub invariant-loop-item : goal.invariant-loop-item
invariant-loop-item l = map (λ f. Some f) l.functions.items ≡ map (placed_item l.headers) (take l.item-index l.list)
