use Rattle.std.proofs.Common.{Some, get_or, length, pos, ℕ, ◌<◌, ◌≡◌, ◌≤◌}
use Rattle.bw_cells.specs.Distances.{distance_from}
use Rattle.bw_column.proofs.distances.measure_each_entry.Given as goal

abbrev pub invariant-loop-i : goal.invariant-loop-i
invariant-loop-i l = record {
  done : (k : ℕ) → k < l.i → get_or l.codes k 0 ≡ distance_from l.base (Some (get_or l.entries (get_or l.fn.codes k 0) (pos 0)));
  left : (k : ℕ) → l.i ≤ k → get_or l.codes k 0 ≡ get_or l.fn.codes k 0;
  long : length l.codes ≡ length l.fn.codes;
}
