use Rattle.std.proofs.Common.{◌*◌, ◌+◌, ◌-◌, ◌^◌, ◌≤◌}
use Rattle.bw_mask.specs.Masks.{row_in}
use Rattle.bw_code.specs.Columns.{code_at}
use Rattle.bw_aggregate.specs.Descents.{front}
use Rattle.bw_aggregate.specs.Ends.{distance}
use Rattle.bw_aggregate.proofs.NearRows.{AreLeft}
use Rattle.bw_aggregate.proofs.nearest_planes.nearest_of.Given as goal

abbrev pub invariant-planes : goal.invariant-planes
invariant-planes l = record {
  left : AreLeft (row_in l.rows) (row_in l.left) (λ j. distance l.end (2 ^ l.codes.width - 1) (code_at l.codes (256 * l.q + j))) (l.codes.width - l.i) l.found;
  best : l.found ≤ front (l.codes.width - l.i) l.best;
}
