use Rattle.bw_lane.proofs.Bits.{row_or, row_and, row_xor, len_and, len_xor, without}
use Rattle.bw_lane.proofs.planes.plane_step.Goals as goal

pub returns-then-bit-clause-less : goal.returns-then-bit-clause-less
returns-then-bit-clause-less c j h =
    let l = c.args.lt.now in
    let e = c.args.eq.now in
    let p = c.args.plane.now in
    rw (row_or l _ c.told-lt (len_xor e _ c.told-eq (len_and e p c.told-eq c.told-plane)) j h, row_xor e _ c.told-eq (len_and e p c.told-eq c.told-plane) j h, row_and e p c.told-eq c.told-plane j h, without _ _, c.if-bit.true)

pub returns-then-bit-clause-same : goal.returns-then-bit-clause-same
returns-then-bit-clause-same c j h = rw (row_and c.args.eq.now c.args.plane.now c.told-eq c.told-plane j h, c.if-bit.true)

pub returns-else-bit-clause-same : goal.returns-else-bit-clause-same
returns-else-bit-clause-same c j h =
    let e = c.args.eq.now in
    let p = c.args.plane.now in
    rw (row_xor e _ c.told-eq (len_and e p c.told-eq c.told-plane) j h, row_and e p c.told-eq c.told-plane j h, without _ _, c.if-bit.false)
