use Rattle.std.proofs.Common.{arith}
use Rattle.bw_byteslice.proofs.Raised.{raised_is}
use Rattle.bw_byteslice.proofs.shift.raise_narrow.Goals as goal

pub returns : goal.returns
returns c = raised_is 32 c.args.width c.shift_of.result c.args.code (omega (arith, c.requires.narrow)) c.shift_of.ensures c.requires.fits
