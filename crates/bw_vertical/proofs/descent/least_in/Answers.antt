use Rattle.std.proofs.Common.{arith, ◌+◌, ◌≡◌}
use Rattle.bw_mask.specs.Masks.{row_in}
use Rattle.bw_vertical.specs.Descents.{IsLeastSoFar}
use Rattle.bw_vertical.specs.Storage.{lists}
use Rattle.bw_vertical.proofs.Descending.{one_bit_more, some_row}
use Rattle.bw_vertical.proofs.SegmentEnds.{begun, begun_more, least_first, least_stopped, least_whole}
use Rattle.bw_vertical.proofs.descent.least_in.Goals as goal

pub planes-init : goal.planes-init
planes-init c = record {
  least = least_first c.args.k (lists c.args.groups.now) c.args.q c.args.rows.now (some_row 256 (row_in c.args.rows.now) c.requires.some);
  short = omega arith;
}

pub returns-then-reached-best : goal.returns-then-reached-best
returns-then-reached-best c =
    let k = c.args.k in
    let gs = lists c.args.groups.now in
    let q = c.args.q in
    let p = c.planes.p in
    let has = row_in c.args.rows.now in
    let so_far : IsLeastSoFar has (begun k gs q (p + 1)) c.less-reached.result = c.less-reached.ensures.least has (begun k gs q p) (begun k gs q (p + 1)) (λ r h on. begun_more k q p gs c.plane_at.result.now c.plane_at.ensures r h) c.planes.invariant.least in
    least_stopped k gs q has p c.args.best c.less-reached.result c.planes-test.true so_far c.if-reached-best.true

pub planes-preserved : goal.planes-preserved
planes-preserved c =
    let k = c.args.k in
    let gs = lists c.args.groups.now in
    let q = c.args.q in
    let p = c.planes.p in
    record {
      least = c.less-reached.ensures.least (row_in c.args.rows.now) (begun k gs q p) (begun k gs q (p + 1)) (λ r h on. begun_more k q p gs c.plane_at.result.now c.plane_at.ensures r h) c.planes.invariant.least;
      short = one_bit_more p c.planes.reached.number c.less-reached.result.number c.planes.invariant.short c.less-reached.ensures.short;
    }

pub returns : goal.returns
returns c =
    let all : c.planes.p ≡ c.args.k = omega (arith, c.planes-test.false, c.planes.auto.p-end) in
    least_whole c.args.k (lists c.args.groups.now) c.args.q (row_in c.args.rows.now) c.planes.p c.args.best c.planes.reached all c.min.result c.min.ensures c.planes.invariant.least
