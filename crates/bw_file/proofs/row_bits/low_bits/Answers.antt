use Rattle.bw_mask.proofs.Bits.{bit_of_ones}
use Rattle.bw_file.proofs.row_bits.low_bits.Goals as goal

pub returns-else-n-eq0 : goal.returns-else-n-eq0
returns-else-n-eq0 c i = bit_of_ones c.args.n i c.requires
