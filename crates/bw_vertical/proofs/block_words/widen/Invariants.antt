use Rattle.std.proofs.Common.{get_or, length, ℕ, ◌<◌, ◌≡◌}
use Rattle.bw_vertical.proofs.block_words.widen.Given as goal

abbrev pub invariant-loop-q : goal.invariant-loop-q
invariant-loop-q l = record {
  long : length l.run ≡ 64;
  same : (r : ℕ) → r < l.q → get_or l.run r 0 ≡ get_or l.numbers r 0;
}

abbrev pub invariant-loop-r : goal.invariant-loop-r
invariant-loop-r l = record {
  len : length l.out ≡ length l.fn.out;
  same : (r : ℕ) → r < l.r → get_or l.out r 0 ≡ get_or l.numbers r 0;
}
