use Rattle.bw_byteslice.proofs.Words.{empty_is}
use Rattle.bw_byteslice.proofs.rows.is_empty.Goals as goal

pub returns : goal.returns
returns c = empty_is c.args.rows c.ranges.rows.fits
