use Rattle.std.proofs.Common.{arith, subst, sym, ◌<◌, ◌^◌}
use Rattle.bw_byteslice.specs.Slices.{slices_of}
use Rattle.bw_byteslice.proofs.Raised.{raised_fits, raised_is}
use Rattle.bw_byteslice.proofs.shift.raise.Goals as goal

pub returns-clause-value : goal.returns-clause-value
returns-clause-value c = raised_is 64 c.args.width c.shift_of.result c.args.code (omega (arith, c.requires.narrow)) c.shift_of.ensures c.requires.fits

pub returns-clause-fits : goal.returns-clause-fits
returns-clause-fits c = subst (λ n. n < 256 ^ slices_of c.args.width) (sym (returns-clause-value c)) (raised_fits c.args.width c.args.code c.requires.fits)
