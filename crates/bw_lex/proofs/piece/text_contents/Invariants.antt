use Rattle.std.proofs.Common.{◌≡◌, ◌++◌, length}
use Rattle.bw_lex.specs.Pieces.{contents}
use Rattle.bw_lex.proofs.piece.text_contents.Given as goal

-- what was read and what is left to read are all
abbrev pub invariant-loop-rest : goal.invariant-loop-rest
invariant-loop-rest l = l.text.items ++ contents l.rest ≡ contents l.bytes

abbrev pub decreases-loop-rest : goal.decreases-loop-rest
decreases-loop-rest l = length l.rest
