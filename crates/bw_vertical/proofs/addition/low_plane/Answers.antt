use Rattle.std.proofs.Common.{[], ap, arith, length, sym, ◌*◌, ◌+◌, ◌-◌, ◌<◌, ◌∙◌}
use Rattle.std.proofs.lemmas.List.{get_or_default}
use Rattle.bw_mask.specs.Masks.{row_in}
use Rattle.bw_vertical.proofs.Lanes.{no_rows}
use Rattle.bw_vertical.proofs.Sums.{no_bit, plane_bit}
use Rattle.bw_vertical.proofs.addition.low_plane.Goals as goal

pub returns-then-n-k-clause-rows : goal.returns-then-n-k-clause-rows
returns-then-n-k-clause-rows g c j h =
    let units = g.S.Source.units c.args.source.now in
    let k = c.args.k in
    let n = c.args.n in
    let at = c.args.q * k + (k - 1 - n) in
    let there : at < length units = omega (arith, c.requires.there, c.if-n-k.true) in
    ap (λ p. row_in p j) (c.read.ensures.unit ∙ get_or_default units at c.read.result [] there) ∙ plane_bit k c.args.q n j units h c.if-n-k.true

pub returns-else-n-k-clause-rows : goal.returns-else-n-k-clause-rows
returns-else-n-k-clause-rows g c j h = no_rows j h ∙ sym (no_bit c.args.k c.args.n (256 * c.args.q + j) (g.S.Source.units c.args.source.now) (omega (arith, c.if-n-k.false)))
