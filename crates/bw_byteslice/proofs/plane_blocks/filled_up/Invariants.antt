use Rattle.std.proofs.Common.{get_or, length, ℕ, ◌<◌, ◌≡◌, ◌≤◌}
use Rattle.bw_byteslice.proofs.plane_blocks.filled_up.Given as goal

-- the bytes before this one stand in their places, and the others hold 0
abbrev pub invariant-loop-r : goal.invariant-loop-r
invariant-loop-r l =
    ((k : ℕ) → k < l.r → get_or l.run k 0 ≡ get_or l.bytes k 0)
    × ((k : ℕ) → l.r ≤ k → get_or l.run k 0 ≡ 0)
    × (length l.run ≡ 64)
