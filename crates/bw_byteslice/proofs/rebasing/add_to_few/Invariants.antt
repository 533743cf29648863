use Rattle.std.proofs.Common.{bit_and, get_or, length, ℕ, ◌%◌, ◌+◌, ◌/◌, ◌<◌, ◌≡◌, ◌≤◌}
use Rattle.bw_byteslice.proofs.rebasing.add_to_few.Given as goal

-- the bytes before this one are sums, and the others are as they were
abbrev pub invariant-loop-r : goal.invariant-loop-r
invariant-loop-r l = record {
  len : length l.bytes ≡ length l.fn.bytes;
  low : (k : ℕ) → k < 64 → get_or l.carries k 0 ≤ 1;
  bytes : (k : ℕ) → k < l.r → get_or l.bytes k 0 ≡ (get_or l.fn.bytes k 0 + bit_and l.byte (get_or l.ones k 0) + get_or l.fn.carries k 0) % 256;
  carries : (k : ℕ) → k < l.r → get_or l.carries k 0 ≡ (get_or l.fn.bytes k 0 + bit_and l.byte (get_or l.ones k 0) + get_or l.fn.carries k 0) / 256;
  bytes_left : (k : ℕ) → l.r ≤ k → get_or l.bytes k 0 ≡ get_or l.fn.bytes k 0;
  carries_left : (k : ℕ) → l.r ≤ k → get_or l.carries k 0 ≡ get_or l.fn.carries k 0;
}
