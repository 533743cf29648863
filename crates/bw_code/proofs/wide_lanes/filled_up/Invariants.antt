use Rattle.std.proofs.Common.{get_or, length, ℕ, ◌<◌, ◌≡◌, ◌≤◌}
use Rattle.bw_code.proofs.wide_lanes.filled_up.Given as goal

-- the codes before this one stand in their places, and the others hold 0
abbrev pub invariant-loop-i : goal.invariant-loop-i
invariant-loop-i l =
    ((k : ℕ) → k < l.i → get_or l.block k 0 ≡ get_or l.codes k 0)
    × ((k : ℕ) → l.i ≤ k → get_or l.block k 0 ≡ 0)
    × (length l.block ≡ 64)
