use Rattle.bw_split.proofs.HaveParts.{have_parts}
use Rattle.bw_split.proofs.PartTexts.{parts_given}
use Rattle.bw_split.proofs.laws.parts_are_given.Goals as goal

pub returns-clause-given : goal.returns-clause-given
returns-clause-given c = parts_given

pub returns-clause-some : goal.returns-clause-some
returns-clause-some c = have_parts
