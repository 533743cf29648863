use Rattle.std.proofs.Common.{arith, sym, ◌∙◌}
use Rattle.bw_mask.proofs.Bits.{bit_above, bit_of_shr, bit_of_zero}
use Rattle.bw_mask.proofs.words.down.Goals as goal

pub returns-then-places-lt64-clause-moved : goal.returns-then-places-lt64-clause-moved
returns-then-places-lt64-clause-moved c i = bit_of_shr c.args.word c.args.places i

pub returns-then-places-lt64-clause-none : goal.returns-then-places-lt64-clause-none
returns-then-places-lt64-clause-none c i h = bit_of_shr c.args.word c.args.places i ∙ bit_above c.args.word _ c.ranges.word.fits h

pub returns-else-places-lt64-clause-moved : goal.returns-else-places-lt64-clause-moved
returns-else-places-lt64-clause-moved c i = bit_of_zero i ∙ sym (bit_above c.args.word _ c.ranges.word.fits (omega arith))
