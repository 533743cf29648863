use Rattle.std.proofs.Common.{None, get_or, length, ℕ, ◌+◌, ◌<◌, ◌≡◌}
use Rattle.bw_file.specs.Cells.{presence_size}
use Rattle.bw_file.specs.Planes.{read_cell}
use Rattle.bw_file.proofs.plane_column.read_plane_cells.Given as goal

abbrev pub invariant-rows : goal.invariant-rows
invariant-rows l = record {
  count : length l.out ≡ length l.fn.out;
  each : (r : ℕ) → r < l.r → get_or l.out r None ≡ read_cell l.base l.k (presence_size l.rows) l.present l.planes (l.at + r);
}
