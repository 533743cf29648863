use Rattle.std.proofs.Common.{ap, arith, drop, length, length-drop, length-take, take, ◌*◌, ◌+◌, ◌-◌, ◌/◌, ◌<◌, ◌==◌, ◌≡◌, ◌≤◌, ◌∙◌}
use Rattle.std.proofs.Math.Nat.{mul-le-mul_right}
use Rattle.bw_file.proofs.Written.{kept, written}
use Rattle.bw_file.proofs.planes.put_run.Goals as goal

pub returns-then-at-size-clause-inside : goal.returns-then-at-size-clause-inside
returns-then-at-size-clause-inside c i l m b =
    let k = c.args.k in
    let size = c.args.size in
    let at = c.args.at in
    let p = c.args.p in
    let planes = c.args.planes.now in
    let new = c.put_plane.new.out in
    let start = c.args.p * c.args.size + c.args.at / 8 in
    let n = c.args.p * c.args.size + c.min-end.result - (c.args.p * c.args.size + c.args.at / 8) in
    let low = c.requires.plane in
    let first = c.requires.first in
    let end = c.min-end.ensures in
    let inside : c.args.at / 8 + n ≤ c.args.size = omega (arith, end, c.if-at-size.true) in
    let room : c.args.p * c.args.size + c.args.size ≤ c.args.k * c.args.size = omega (arith, mul-le-mul_right {m = c.args.p + 1} {n = c.args.k} c.args.size (omega (arith, low))) in
    let old_size : length (take n (drop start planes)) ≡ n = omega (arith, length-take n (drop start planes), length-drop start planes, c.requires.planes, inside, room) in
    let new_size : length new ≡ n = c.put_plane.ensures.len ∙ old_size in
    let there : i / 8 < c.args.at / 8 + n = omega (arith, end, c.if-at-size.true, first, l, b) in
    let in_new : (i - at) / 8 < length (take n (drop start planes)) = omega (arith, old_size, there, first, m) in
    ap (λ x. x == 1) (written k size at n p planes new low first c.requires.planes new_size inside i m there) ∙ c.put_plane.ensures.bits (i - at) in_new

pub returns-then-at-size-clause-outside : goal.returns-then-at-size-clause-outside
returns-then-at-size-clause-outside c q i l apart =
    let k = c.args.k in
    let size = c.args.size in
    let at = c.args.at in
    let p = c.args.p in
    let planes = c.args.planes.now in
    let new = c.put_plane.new.out in
    let start = c.args.p * c.args.size + c.args.at / 8 in
    let n = c.args.p * c.args.size + c.min-end.result - (c.args.p * c.args.size + c.args.at / 8) in
    let low = c.requires.plane in
    let first = c.requires.first in
    let end = c.min-end.ensures in
    let inside : c.args.at / 8 + n ≤ c.args.size = omega (arith, end, c.if-at-size.true) in
    let room : c.args.p * c.args.size + c.args.size ≤ c.args.k * c.args.size = omega (arith, mul-le-mul_right {m = c.args.p + 1} {n = c.args.k} c.args.size (omega (arith, low))) in
    let old_size : length (take n (drop start planes)) ≡ n = omega (arith, length-take n (drop start planes), length-drop start planes, c.requires.planes, inside, room) in
    let new_size : length new ≡ n = c.put_plane.ensures.len ∙ old_size in
    kept k size at n p planes new low first c.requires.planes new_size inside q i l (λ e high. let past = apart e (omega (arith, high, first)) in omega (arith, past, end, first))
