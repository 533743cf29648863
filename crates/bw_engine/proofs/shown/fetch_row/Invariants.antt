use Rattle.std.proofs.Common.{map, take, ◌++◌, ◌≡◌}
use Rattle.bw_table.specs.Slots.{slot_at}
use Rattle.bw_model.specs.Store.{value_at}
use Rattle.bw_engine.proofs.shown.fetch_row.Given as goal

-- the values of the places so far
abbrev pub invariant-loop-place : goal.invariant-loop-place
invariant-loop-place l = l.values.items ≡ l.fn.values.items ++ map (λ place. value_at (slot_at l.table.slots l.slot).row place) (take l.place-index l.places)
