use Rattle.std.proofs.Common.{◌*◌, ◌+◌, ◌<◌, ◌==◌, ◌^◌}
use Rattle.bw_vertical.proofs.Numbers.{number}
use Rattle.bw_file.specs.Descents.{bit_at_row, IsGreatestSoFar}
use Rattle.bw_file.specs.Planes.{plane_bit}
use Rattle.bw_file.proofs.descent.greatest_in.Given as goal

-- the greatest of the numbers that the first planes make, from the highest bit on
abbrev pub invariant-planes : goal.invariant-planes
invariant-planes l = record {
  so_far : IsGreatestSoFar (bit_at_row l.there) (λ r. number (λ q. plane_bit l.size l.planes q (8 * l.from + r) == 1) l.p) l.reached.number l.reached.rows;
  short : l.reached.number < 2 ^ l.p;
}
