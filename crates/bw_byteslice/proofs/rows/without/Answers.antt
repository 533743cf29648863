use Rattle.bw_lane.proofs.Bits.{bit_of_and, bit_of_xor, without}
use Rattle.bw_byteslice.proofs.rows.without.Goals as goal

pub returns : goal.returns
returns c r = rw (bit_of_xor c.args.a _ r, bit_of_and c.args.a c.args.b r) (without _ _)
