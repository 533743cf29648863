use Rattle.bw_lane.proofs.Bits.{len_and, len_xor, row_and, row_or, row_xor}
use Rattle.bw_mask.specs.Masks.{row_in}
use Rattle.bw_vertical.proofs.Adding.{three_digits}
use Rattle.bw_vertical.proofs.shifting.add_to_plane.Goals as goal

pub returns : goal.returns
returns c j h =
    let a = c.args.plane.now in
    let b = c.args.rows.now in
    let carry = c.args.carry.now in
    let unlike = len_xor a b c.told-plane c.told-rows in
    rw (row_xor _ carry unlike c.told-carry j h, row_or _ _ (len_and a b c.told-plane c.told-rows) (len_and _ carry unlike c.told-carry) j h, row_and a b c.told-plane c.told-rows j h, row_and _ carry unlike c.told-carry j h, row_xor a b c.told-plane c.told-rows j h)
    (three_digits (row_in a j) (row_in b j) (row_in carry j))
