use Rattle.std.proofs.Common.{◌≡◌, Some, map, take}
use Rattle.bw_model.specs.Select.{columns_in}
use Rattle.bw_model.specs.Store.{place_of}
use Rattle.bw_plan.proofs.select.places_in.Given as goal

abbrev pub invariant-loop-item : goal.invariant-loop-item
invariant-loop-item l = map (λ place. Some place) l.places.items ≡ map (place_of l.headers) (columns_in (take l.item-index l.list))
