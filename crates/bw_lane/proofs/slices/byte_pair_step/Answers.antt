use Rattle.std.proofs.Common.{ap, ◌∙◌, ◌&&◌, ◌||◌, ltb, eqb}
use Rattle.bw_lane.proofs.Bits.{bit_of_or, bit_of_and, bit_of_masks}
use Rattle.bw_lane.specs.Rows.{bit_of}
use Rattle.bw_lane.proofs.slices.byte_pair_step.Goals as goal

pub returns-clause-less : goal.returns-clause-less
returns-clause-less c r h =
    bit_of_or c.args.lt.now _ r
    ∙ ap (λ b. bit_of c.args.lt.now r || b) (bit_of_and c.args.eq.now _ r ∙ ap (λ b. bit_of c.args.eq.now r && b) (ap (λ w. bit_of w r) c.low_half.ensures ∙ bit_of_masks ltb c.args.a.now c.args.b.now c.told-a c.told-b r h))

pub returns-clause-same : goal.returns-clause-same
returns-clause-same c r h =
    bit_of_and c.args.eq.now _ r ∙ ap (λ b. bit_of c.args.eq.now r && b) (ap (λ w. bit_of w r) c.low_half-2.ensures ∙ bit_of_masks eqb c.args.a.now c.args.b.now c.told-a c.told-b r h)
