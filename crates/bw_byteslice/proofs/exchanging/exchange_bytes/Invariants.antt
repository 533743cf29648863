use Rattle.std.proofs.Common.{false, get_or, if◌then◌else◌, length, ℕ, ◌<◌, ◌≡◌, ◌≤◌}
use Rattle.bw_byteslice.proofs.exchanging.exchange_bytes.Given as goal

-- the bytes of the rows before this one are exchanged, and the others are as they were
abbrev pub invariant-loop-r : goal.invariant-loop-r
invariant-loop-r l = record {
  len : length l.own ≡ length l.fn.own;
  other_len : length l.other ≡ length l.fn.other;
  done : (k : ℕ) → k < l.r → get_or l.own k 0 ≡ (if get_or l.chosen k false then get_or l.fn.other k 0 else get_or l.fn.own k 0);
  other_done : (k : ℕ) → k < l.r → get_or l.other k 0 ≡ (if get_or l.chosen k false then get_or l.fn.own k 0 else get_or l.fn.other k 0);
  left : (k : ℕ) → l.r ≤ k → get_or l.own k 0 ≡ get_or l.fn.own k 0;
  other_left : (k : ℕ) → l.r ≤ k → get_or l.other k 0 ≡ get_or l.fn.other k 0;
}
