use Rattle.std.proofs.Common.{get_or, length, ℕ, ◌%◌, ◌*◌, ◌/◌, ◌<◌, ◌^◌, ◌≡◌}
use Rattle.bw_vertical.proofs.bytes.pair_of_each.Given as goal

-- the pairs so far
abbrev pub invariant-loop-r : goal.invariant-loop-r
invariant-loop-r l = record {
  long : length l.pairs ≡ 64;
  done : (q : ℕ) → q < l.r → get_or l.pairs q 0 ≡ get_or l.codes q 0 / 2 ^ (16 * l.h) % 2 ^ 16;
}
