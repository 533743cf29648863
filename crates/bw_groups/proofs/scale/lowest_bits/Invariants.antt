use Rattle.std.proofs.Common.{get_or, length, ℕ, ◌%◌, ◌<◌, ◌^◌, ◌≡◌}
use Rattle.bw_groups.proofs.scale.lowest_bits.Given as goal

-- the words before word i are taken
abbrev pub invariant-loop-i : goal.invariant-loop-i
invariant-loop-i l = record {
  wide : length l.low ≡ 64;
  done : (k : ℕ) → k < l.i → get_or l.low k 0 ≡ get_or l.run k 0 % 2 ^ 32;
}
