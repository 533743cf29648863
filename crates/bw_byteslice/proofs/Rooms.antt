-- For how many rows slices have room.
use Rattle.std.proofs.Common.{List, [], ◌∷◌, arith, get_or, length, suc, zero, ℕ, ◌*◌, ◌<◌, ◌^◌, ◌≡◌, ◌≤◌}
use Rattle.bw_code.specs.Units.{segments_of}
use Rattle.bw_byteslice.specs.Storing.{room_of}

-- room for rows is room for whole segments in each slice
pub room_in_each : (capacities : List ℕ) (n i : ℕ) → n ≤ room_of capacities → i < length capacities → 32 * segments_of 32 n ≤ get_or capacities i 0
unfolding room_of
room_in_each [] n i room h = absurd (omega arith)
room_in_each (capacity ∷ rest) n zero room h = omega arith
room_in_each (capacity ∷ rest) n (suc i) room h = room_in_each rest n i (omega arith) (omega arith)

pub room_enough : (capacities : List ℕ) (n : ℕ) → n ≤ 2 ^ 24 → ((i : ℕ) → i < length capacities → 32 * segments_of 32 n ≤ get_or capacities i 0) → n ≤ room_of capacities
unfolding room_of
room_enough [] n few each = few
room_enough (capacity ∷ rest) n few each = let here = each 0 (omega arith) in let others = room_enough rest n few (λ i h. each (suc i) (omega arith)) in omega (arith, here, others)

pub room_more : (old new : List ℕ) → length old ≡ length new → ((i : ℕ) → get_or old i 0 ≤ get_or new i 0) → room_of old ≤ room_of new
unfolding room_of
room_more [] [] same each = omega arith
room_more [] (capacity ∷ rest) same each = absurd (omega arith)
room_more (capacity ∷ rest) [] same each = absurd (omega arith)
room_more (capacity ∷ rest) (other ∷ more) same each = let here = each 0 in let others = room_more rest more (omega arith) (λ i. each (suc i)) in omega (arith, here, others)
