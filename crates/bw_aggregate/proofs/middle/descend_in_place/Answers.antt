use Rattle.std.proofs.Common.{ap, arith, get_or, subst, ◌%◌, ◌*◌, ◌+◌, ◌-◌, ◌/◌, ◌<◌, ◌≡◌, ◌∙◌}
use Rattle.bw_mask.specs.Masks.{bit_of}
use Rattle.bw_aggregate.specs.Descending.{IsDescent}
use Rattle.bw_aggregate.proofs.middle.descend_in_place.Goals as goal

pub planes-preserved : goal.planes-preserved
planes-preserved c held n on =
    let codes = c.args.codes.now in
    let width = codes.width in
    let i = c.planes.i in
    let below : i < width = omega (arith, c.planes-test.true, c.width-width.ensures.width) in
    let bit : width - 1 - i ≡ width - (i + 1) = omega arith in
    let next : width - i ≡ width - (i + 1) + 1 = omega (arith, below) in
    c.step.ensures codes.codes held n (width - (i + 1))
    (λ r.
    let place : 256 * (r / 256) + r % 256 ≡ r = omega arith in
    c.of-plane.ensures.rows (r / 256) (r % 256) (omega arith)
    ∙ ap (λ x. bit_of (get_or codes.codes x 0) (width - 1 - i)) place
    ∙ ap (bit_of (get_or codes.codes r 0)) bit)
    (subst (λ k. IsDescent codes.codes held n k c.planes.descent) next (c.planes.invariant held n on))

pub returns : goal.returns
returns c held n on =
    let codes = c.args.codes.now in
    let none : codes.width - c.planes.i ≡ 0 = omega (arith, c.planes-test.false, c.width-width.ensures.width) in
    subst (λ k. IsDescent codes.codes held n k c.planes.descent) none (c.planes.invariant held n on)
