use Rattle.std.proofs.Common.{get_or, length, ℕ, ◌+◌, ◌-◌, ◌<◌, ◌≡◌, ◌≤◌}
use Rattle.bw_column.proofs.raising.raised_from.Given as goal

-- the entries so far don't move
abbrev pub invariant-loop-place : goal.invariant-loop-place
invariant-loop-place l = record {
  inside : l.place ≤ length l.moves;
  same : (m : ℕ) → m < l.place → get_or l.moves m 0 ≡ m;
}

abbrev pub decreases-loop-place : goal.decreases-loop-place
decreases-loop-place l = length l.moves - l.place

-- and those after them move by one
abbrev pub invariant-loop-m : goal.invariant-loop-m
invariant-loop-m l = record { each : (m : ℕ) → l.place ≤ m → m < l.m → get_or l.moves m 0 ≡ m + 1 }
