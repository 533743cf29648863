use Rattle.std.proofs.Common.{ap, arith, bit_and, bit_or, ◌%◌, ◌+◌, ◌-◌, ◌∙◌}
use Rattle.bw_byteslice.proofs.Blends.{blend_is}
use Rattle.bw_byteslice.proofs.blocks.choose_byte.Goals as goal

pub returns : goal.returns
returns c =
    ap (λ m. bit_or (bit_and c.args.own (255 - (0 + (256 - m)) % 256)) (bit_and c.args.byte ((0 + (256 - m)) % 256))) c.from-ones.ensures
    ∙ blend_is c.args.chosen c.args.own c.args.byte (omega (arith, c.ranges.own)) (omega (arith, c.ranges.byte))
