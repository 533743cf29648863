use Rattle.bw_lane.proofs.Bits.{bit_of_or}
use Rattle.bw_byteslice.proofs.rows.either.Goals as goal

pub returns : goal.returns
returns c r = bit_of_or c.args.a c.args.b r
