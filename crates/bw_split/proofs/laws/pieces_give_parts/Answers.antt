use Rattle.bw_split.proofs.PartTexts.{pieces_given}
use Rattle.bw_split.proofs.laws.pieces_give_parts.Goals as goal

pub returns : goal.returns
returns c = pieces_given
