use Rattle.std.proofs.Common.{get_or, length, ℕ, ◌%◌, ◌/◌, ◌<◌, ◌^◌, ◌≡◌, ◌≤◌}
use Rattle.bw_vertical.proofs.blocks.narrow.Given as goal

-- the codes so far, and what was after them
abbrev pub invariant-loop-r : goal.invariant-loop-r
invariant-loop-r l = record {
  long : length l.block ≡ 64;
  done : (q : ℕ) → q < l.r → get_or l.block q 0 ≡ get_or l.codes q 0 / 2 ^ l.down % 2 ^ 32;
  rest : (q : ℕ) → l.r ≤ q → get_or l.block q 0 ≡ get_or l.fn.block q 0;
}
