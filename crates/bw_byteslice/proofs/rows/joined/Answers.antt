use Rattle.std.proofs.Common.{ap, bit_or, ◌%◌, ◌*◌, ◌+◌, ◌^◌, ◌∙◌}
use Rattle.bw_mask.specs.Masks.{bit_of}
use Rattle.bw_byteslice.proofs.Words.{joined_high, joined_low}
use Rattle.bw_byteslice.proofs.rows.joined.Goals as goal

pub returns-clause-low : goal.returns-clause-low
returns-clause-low c r h = ap (λ n. bit_of (bit_or (c.from.result * 2 ^ 32 % 2 ^ 64) n) r) c.from-2.ensures ∙ joined_low c.args.low c.from.result c.ranges.low.fits r h

pub returns-clause-high : goal.returns-clause-high
returns-clause-high c r h =
    ap (λ n. bit_of (bit_or (c.from.result * 2 ^ 32 % 2 ^ 64) n) (32 + r)) c.from-2.ensures ∙ joined_high c.args.low c.from.result c.ranges.low.fits r h ∙ ap (λ n. bit_of n r) c.from.ensures
