use Rattle.std.proofs.Common.{arith, ◌*◌, ◌+◌, ◌≡◌, ◌≤◌}
use Rattle.std.proofs.Math.Nat.{mul-le-mul_right}
use Rattle.bw_code.specs.Columns.{count}
use Rattle.bw_code.specs.Units.{segments_of}
use Rattle.bw_aggregate.proofs.plane.plane_at.Goals as goal

pub bounds-group-q : goal.bounds-group-q
bounds-group-q c =
    let plane = c.of-count.result in
    let is = c.of-count.ensures in
    let room : (c.args.q + 1) * plane.count ≤ segments_of 256 (count c.args.codes.now) * plane.count = mul-le-mul_right plane.count (omega (arith, c.requires.there)) in
    let spread : (c.args.q + 1) * plane.count ≡ c.args.q * plane.count + plane.count = grind arith in
    omega (arith, room, spread, is.long, is.inside)

pub returns : goal.returns
returns c j h = c.of-count.ensures.rows c.args.q j h
