use Rattle.std.proofs.Common.{[], ap, arith, get_or, ◌%◌, ◌*◌, ◌+◌, ◌/◌, ◌≡◌, ◌∙◌}
use Rattle.bw_mask.specs.Masks.{row_in}
use Rattle.bw_aggregate.proofs.plane.Plane.rows.Goals as goal

pub returns-in-InPlace : goal.returns-in-InPlace
returns-in-InPlace c j h =
    let plane = c.in-InPlace.plane in
    let q : c.args.q ≡ (256 * c.args.q + j) / 256 = omega (arith, h) in
    let r : j ≡ (256 * c.args.q + j) % 256 = omega (arith, h) in
    rw c.in-InPlace.is (c.rows.ensures j h
    ∙ ap (λ k. row_in (get_or plane.group.now (k * plane.count + plane.at) []) j) q
    ∙ ap (row_in (get_or plane.group.now ((256 * c.args.q + j) / 256 * plane.count + plane.at) [])) r)
