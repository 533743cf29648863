use Rattle.std.proofs.Common.{false, get_or, if◌then◌else◌, length, ℕ, ◌<◌, ◌≡◌, ◌≤◌}
use Rattle.bw_byteslice.proofs.filling.fill_bytes.Given as goal

-- the bytes of the rows before this one are filled, and the others are as they were
abbrev pub invariant-loop-r : goal.invariant-loop-r
invariant-loop-r l = record {
  len : length l.bytes ≡ length l.fn.bytes;
  done : (k : ℕ) → k < l.r → get_or l.bytes k 0 ≡ (if get_or l.chosen k false then l.byte else get_or l.fn.bytes k 0);
  left : (k : ℕ) → l.r ≤ k → get_or l.bytes k 0 ≡ get_or l.fn.bytes k 0;
}
