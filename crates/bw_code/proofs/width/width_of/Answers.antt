use Rattle.bw_code.specs.Encodings.{bits_of}
use Rattle.bw_code.proofs.width.width_of.Goals as goal

pub returns-clause-is : goal.returns-clause-is
unfolding bits_of
returns-clause-is c = c.max.ensures
