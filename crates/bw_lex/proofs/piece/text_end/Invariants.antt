use Rattle.std.proofs.Common.{◌≡◌, ◌+◌, length}
use Rattle.bw_lex.specs.Pieces.{quoted_end}
use Rattle.bw_lex.proofs.piece.text_end.Given as goal

-- the end after what is left is the end after all
abbrev pub invariant-loop-rest : goal.invariant-loop-rest
invariant-loop-rest l = (l.at + length l.rest ≡ 1 + length l.bytes) × (quoted_end l.at l.rest ≡ quoted_end 1 l.bytes)

abbrev pub decreases-loop-rest : goal.decreases-loop-rest
decreases-loop-rest l = length l.rest
