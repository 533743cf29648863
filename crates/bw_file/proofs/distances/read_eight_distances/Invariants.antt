use Rattle.std.proofs.Common.{drop, get_or, length, ℕ, ◌*◌, ◌<◌, ◌≡◌}
use Rattle.std.specs.Int.{bit_at}
use Rattle.byteorder.specs.Endian.{little_number}
use Rattle.bw_cells.specs.Distances.{distance_from}
use Rattle.bw_file.specs.Reading.{cell_by}
use Rattle.bw_file.proofs.distances.read_eight_distances.Given as goal

abbrev pub invariant-rows : goal.invariant-rows
invariant-rows l = record {
  count : length l.out ≡ 8;
  each : (k : ℕ) → k < l.j → get_or l.out k 0 ≡ distance_from l.base (cell_by (bit_at l.present k) (little_number 4 (drop (4 * k) l.words)));
}
