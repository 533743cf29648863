use Rattle.std.proofs.Common.{◌<◌, ◌^◌}
use Rattle.bw_mask.specs.Masks.{row_in}
use Rattle.bw_vertical.specs.Descents.{IsGreatestSoFar}
use Rattle.bw_vertical.specs.Storage.{lists}
use Rattle.bw_vertical.proofs.SegmentEnds.{begun}
use Rattle.bw_vertical.proofs.descent.greatest_in.Given as goal

-- the greatest of the numbers that the first planes make
abbrev pub invariant-planes : goal.invariant-planes
invariant-planes l = record {
  greatest : IsGreatestSoFar (row_in l.rows) (begun l.k (lists l.groups) l.q l.p) l.reached;
  short : l.reached.number < 2 ^ l.p;
}
