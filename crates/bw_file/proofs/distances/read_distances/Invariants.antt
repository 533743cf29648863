use Rattle.std.proofs.Common.{get_or, length, ℕ, ◌*◌, ◌+◌, ◌<◌, ◌≡◌}
use Rattle.bw_cells.specs.Distances.{distance_from}
use Rattle.bw_file.specs.Reading.{read_cell}
use Rattle.bw_file.proofs.distances.read_distances.Given as goal

abbrev pub invariant-eights : goal.invariant-eights
invariant-eights l = record {
  count : length l.out ≡ length l.fn.out;
  each : (k : ℕ) → k < 8 * l.q → get_or l.out k 0 ≡ distance_from l.base (read_cell l.present l.words (l.at + k));
}

abbrev pub invariant-rest : goal.invariant-rest
invariant-rest l = record {
  count : length l.out ≡ length l.fn.out;
  each : (k : ℕ) → k < l.k → get_or l.out k 0 ≡ distance_from l.base (read_cell l.present l.words (l.at + k));
}
