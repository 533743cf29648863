use Rattle.bw_lane.proofs.Bits.{len_and, row_and, row_xor, without}
use Rattle.bw_vertical.proofs.rows.without.Goals as goal

pub returns : goal.returns
returns c j h =
    let a = c.args.a.now in
    let b = c.args.b.now in
    rw (row_xor a _ c.told-a (len_and a b c.told-a c.told-b) j h, row_and a b c.told-a c.told-b j h) (without _ _)
