use Rattle.bw_byteslice.proofs.Words.{low_bit}
use Rattle.bw_byteslice.proofs.rows.low_half.Goals as goal

pub returns : goal.returns
returns c r h = low_bit c.args.word r h
