use Rattle.bw_lane.proofs.Bits.{len_and, row_and, row_xor, without}
use Rattle.bw_aggregate.proofs.rows.rows_with.Goals as goal

pub returns-then-bit : goal.returns-then-bit
returns-then-bit c j h = rw c.if-bit.true (row_and c.args.rows.now c.args.plane.now c.told-rows c.told-plane j h)

pub returns-else-bit : goal.returns-else-bit
returns-else-bit c j h =
    let a = c.args.rows.now in
    let b = c.args.plane.now in
    rw c.if-bit.false (rw (row_xor a _ c.told-rows (len_and a b c.told-rows c.told-plane) j h, row_and a b c.told-rows c.told-plane j h) (without _ _))
