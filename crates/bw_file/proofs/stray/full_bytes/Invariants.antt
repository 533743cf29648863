use Rattle.std.proofs.Common.{get_or, length, ℕ, ◌-◌, ◌<◌, ◌≡◌, ◌≤◌}
use Rattle.bw_file.proofs.stray.full_bytes.Given as goal

-- the bytes so far are full
abbrev pub invariant-loop-n : goal.invariant-loop-n
invariant-loop-n l = record {
  few : l.n ≤ length l.bytes;
  full : (j : ℕ) → j < l.n → get_or l.bytes j 0 ≡ 255;
}

abbrev pub decreases-loop-n : goal.decreases-loop-n
decreases-loop-n l = length l.bytes - l.n
