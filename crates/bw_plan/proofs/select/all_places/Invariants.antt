use Rattle.std.proofs.Common.{◌≡◌, Some, map, take}
use Rattle.bw_model.specs.Store.{names, place_of}
use Rattle.bw_plan.proofs.select.all_places.Given as goal

abbrev pub invariant-loop-place : goal.invariant-loop-place
invariant-loop-place l = map (λ place. Some place) l.places.items ≡ take l.place (map (place_of l.headers) (names l.headers))
