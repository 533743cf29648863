use Rattle.bw_split.proofs.PieceTexts.{texts_closed, texts_on}
use Rattle.bw_split.proofs.laws.piece_by_piece.Goals as goal

pub returns-clause-on : goal.returns-clause-on
returns-clause-on c = texts_on

pub returns-clause-closed : goal.returns-clause-closed
returns-clause-closed c = texts_closed
