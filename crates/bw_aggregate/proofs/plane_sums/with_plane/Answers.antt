use Rattle.std.proofs.Common.{arith}
use Rattle.bw_aggregate.proofs.SegmentSums.{plane_added}
use Rattle.bw_aggregate.proofs.plane_sums.with_plane.Goals as goal

pub returns : goal.returns
returns c need codes k q i narrow below same rows bits before =
    let added = plane_added need codes same q k narrow below c.args.rows.now c.args.plane.now rows i bits c.args.sum before in
    omega (arith, added.0, added.1, c.ones_in.ensures.is)
