use Rattle.std.proofs.Common.{arith, sym, ◌+◌, ◌∙◌}
use Rattle.bw_mask.proofs.Bits.{bit_above, bit_of_shr, bit_of_zero}
use Rattle.bw_horizontal.proofs.gather.past.Goals as goal

pub returns-then-places-lt64 : goal.returns-then-places-lt64
returns-then-places-lt64 c i = bit_of_shr c.args.word c.args.places i

pub returns-else-places-lt64 : goal.returns-else-places-lt64
returns-else-places-lt64 c i = bit_of_zero i ∙ sym (bit_above c.args.word (c.args.places + i) c.ranges.word.fits (omega arith))
