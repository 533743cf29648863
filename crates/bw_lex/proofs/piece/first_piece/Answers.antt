use Rattle.bw_lex.proofs.Lexing.{begins}
use Rattle.bw_lex.proofs.Longest.{within}
use Rattle.bw_lex.proofs.piece.first_piece.Goals as goal

pub returns-clause-within : goal.returns-clause-within
returns-clause-within c = within _ _ c.piece_of.ensures

pub returns-clause-begins : goal.returns-clause-begins
returns-clause-begins c = begins _ _ c.piece_of.ensures
