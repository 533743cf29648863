use Rattle.std.proofs.Common.{get_or, length, ℕ, ◌<◌, ◌≡◌}
use Rattle.bw_vertical.proofs.bytes.widened_pairs.Given as goal

-- the numbers so far
abbrev pub invariant-loop-r : goal.invariant-loop-r
invariant-loop-r l = record {
  long : length l.numbers ≡ 64;
  done : (q : ℕ) → q < l.r → get_or l.numbers q 0 ≡ get_or l.pairs q 0;
}
