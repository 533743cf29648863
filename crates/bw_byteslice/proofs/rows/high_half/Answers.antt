use Rattle.bw_byteslice.proofs.Words.{high_bit}
use Rattle.bw_byteslice.proofs.rows.high_half.Goals as goal

pub returns : goal.returns
returns c r h = high_bit c.args.word r
