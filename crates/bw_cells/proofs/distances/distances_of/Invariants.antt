use Rattle.std.proofs.Common.{None, get_or, length, ℕ, ◌<◌, ◌≡◌}
use Rattle.bw_cells.specs.Distances.{distance_from}
use Rattle.bw_cells.proofs.distances.distances_of.Given as goal

abbrev pub invariant-loop-i : goal.invariant-loop-i
invariant-loop-i l = record {
  each : (k : ℕ) → k < l.i → get_or l.out k 0 ≡ distance_from l.base (get_or l.cells k None);
  long : length l.out ≡ length l.cells;
}
