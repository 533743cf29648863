use Rattle.std.proofs.Common.{get_or, length, ℕ, ◌*◌, ◌+◌, ◌<◌, ◌^◌, ◌≡◌}
use Rattle.bw_vertical.proofs.blocks.copy_halves.Given as goal

-- the numbers so far
abbrev pub invariant-loop-r : goal.invariant-loop-r
invariant-loop-r l = record {
  long : length l.out ≡ length l.fn.out;
  before : (i : ℕ) → i < l.at → get_or l.out i 0 ≡ get_or l.fn.out i 0;
  copied : (q : ℕ) → q < l.r → get_or l.out (l.at + q) 0 ≡ get_or l.low (l.from + q) 0 + 2 ^ 32 * get_or l.high (l.from + q) 0;
}
