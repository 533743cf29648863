use Rattle.std.proofs.Common.{◌-◌, length}
use Rattle.bw_lex.proofs.Lexing.{Progress}
use Rattle.bw_lex.proofs.lexer.tokens.Given as goal

-- the tokens up to here
abbrev pub invariant-loop-at : goal.invariant-loop-at
invariant-loop-at l = Progress l.text l.tokens.items l.at

abbrev pub decreases-loop-at : goal.decreases-loop-at
decreases-loop-at l = length l.text - l.at
