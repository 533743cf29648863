use Rattle.bw_lane.specs.Rows.{row_in}
use Rattle.bw_lane.proofs.Bits.{len_and, len_or, len_xor, lower, row_and, row_or, row_xor}
use Rattle.bw_lane.proofs.planes.low_first_step.Goals as goal

pub returns : goal.returns
returns c j h =
    let a = c.args.a.now in
    let b = c.args.b.now in
    let l = c.args.lt.now in
    let either = len_or b l c.told-b c.told-lt in
    let with_a = len_and _ a either c.told-a in
    rw (row_or _ _ (len_and b l c.told-b c.told-lt) (len_xor _ _ either with_a) j h, row_xor _ _ either with_a j h, row_and _ a either c.told-a j h, row_or b l c.told-b c.told-lt j h, row_and b l c.told-b c.told-lt j h)
    (lower (row_in a j) (row_in b j) (row_in l j))
