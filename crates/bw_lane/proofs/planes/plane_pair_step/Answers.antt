use Rattle.bw_lane.specs.Rows.{row_in}
use Rattle.bw_lane.proofs.Bits.{len_and, len_xor, row_and, row_or, row_xor, second_alone, still_equal}
use Rattle.bw_lane.proofs.planes.plane_pair_step.Goals as goal

pub returns-clause-less : goal.returns-clause-less
returns-clause-less c j h =
    let l = c.args.lt.now in
    let e = c.args.eq.now in
    let a = c.args.a.now in
    let b = c.args.b.now in
    let unlike = len_xor a b c.told-a c.told-b in
    let decided = len_and e _ c.told-eq unlike in
    rw (row_or l _ c.told-lt (len_and _ b decided c.told-b) j h, row_and _ b decided c.told-b j h, row_and e _ c.told-eq unlike j h, row_xor a b c.told-a c.told-b j h)
    (second_alone (row_in l j) (row_in e j) (row_in a j) (row_in b j))

pub returns-clause-same : goal.returns-clause-same
returns-clause-same c j h =
    let e = c.args.eq.now in
    let a = c.args.a.now in
    let b = c.args.b.now in
    let unlike = len_xor a b c.told-a c.told-b in
    rw (row_xor e _ c.told-eq (len_and e _ c.told-eq unlike) j h, row_and e _ c.told-eq unlike j h, row_xor a b c.told-a c.told-b j h)
    (still_equal (row_in e j) (row_in a j) (row_in b j))
