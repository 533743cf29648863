use Rattle.std.proofs.Common.{None, get_or, is_some, length, nat_lt, ℕ, ◌<◌, ◌≡◌, ◌≤◌}
use Rattle.bw_cells.proofs.distances.presence.Given as goal

abbrev pub invariant-loop-i : goal.invariant-loop-i
invariant-loop-i l = record {
  told : (k : ℕ) → k < l.i → nat_lt 0 (get_or l.there k 0) ≡ is_some (get_or l.cells k None);
  rest : (k : ℕ) → l.i ≤ k → get_or l.there k 0 ≡ 0;
  long : length l.there ≡ 64;
}
