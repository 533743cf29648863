use Rattle.std.proofs.Common.{arith, ◌+◌, ◌≡◌}
use Rattle.bw_mask.specs.Masks.{row_in}
use Rattle.bw_vertical.specs.Descents.{IsGreatestSoFar}
use Rattle.bw_vertical.specs.Storage.{lists}
use Rattle.bw_vertical.proofs.Descending.{one_bit_more, some_row}
use Rattle.bw_vertical.proofs.SegmentEnds.{begun, begun_more, greatest_first, greatest_stopped, greatest_whole}
use Rattle.bw_vertical.proofs.descent.greatest_in.Goals as goal

pub planes-init : goal.planes-init
planes-init c = record {
  greatest = greatest_first c.args.k (lists c.args.groups.now) c.args.q c.args.rows.now (some_row 256 (row_in c.args.rows.now) c.requires.some);
  short = omega arith;
}

pub returns-then-reached-best : goal.returns-then-reached-best
returns-then-reached-best c =
    let k = c.args.k in
    let gs = lists c.args.groups.now in
    let q = c.args.q in
    let p = c.planes.p in
    let has = row_in c.args.rows.now in
    let so_far : IsGreatestSoFar has (begun k gs q (p + 1)) c.greater-reached.result = c.greater-reached.ensures.greatest has (begun k gs q p) (begun k gs q (p + 1)) (λ r h on. begun_more k q p gs c.plane_at.result.now c.plane_at.ensures r h) c.planes.invariant.greatest in
    greatest_stopped k gs q has p c.args.best c.greater-reached.result c.planes-test.true so_far c.if-reached-best.true

pub planes-preserved : goal.planes-preserved
planes-preserved c =
    let k = c.args.k in
    let gs = lists c.args.groups.now in
    let q = c.args.q in
    let p = c.planes.p in
    record {
      greatest = c.greater-reached.ensures.greatest (row_in c.args.rows.now) (begun k gs q p) (begun k gs q (p + 1)) (λ r h on. begun_more k q p gs c.plane_at.result.now c.plane_at.ensures r h) c.planes.invariant.greatest;
      short = one_bit_more p c.planes.reached.number c.greater-reached.result.number c.planes.invariant.short c.greater-reached.ensures.short;
    }

pub returns : goal.returns
returns c =
    let all : c.planes.p ≡ c.args.k = omega (arith, c.planes-test.false, c.planes.auto.p-end) in
    greatest_whole c.args.k (lists c.args.groups.now) c.args.q (row_in c.args.rows.now) c.planes.p c.args.best c.planes.reached all c.max.result c.max.ensures c.planes.invariant.greatest
