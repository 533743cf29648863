use Rattle.std.proofs.Common.{get_or, length, ℕ, ◌%◌, ◌+◌, ◌<◌, ◌^◌, ◌≡◌, ◌≤◌}
use Rattle.bw_column.proofs.distances.add_to_each.Given as goal

abbrev pub invariant-loop-i : goal.invariant-loop-i
invariant-loop-i l = record {
  done : (k : ℕ) → k < l.i → get_or l.numbers k 0 ≡ (get_or l.fn.numbers k 0 + l.more) % 2 ^ 64;
  left : (k : ℕ) → l.i ≤ k → get_or l.numbers k 0 ≡ get_or l.fn.numbers k 0;
  long : length l.numbers ≡ length l.fn.numbers;
}
