use Rattle.bw_lex.proofs.Lexing.{not_both, same_tokens}
use Rattle.bw_lex.proofs.lexer.one_reading.Goals as goal

pub returns-clause-same : goal.returns-clause-same
returns-clause-same c = same_tokens

pub returns-clause-bad : goal.returns-clause-bad
returns-clause-bad c = not_both
