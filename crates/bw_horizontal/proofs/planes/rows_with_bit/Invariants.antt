use Rattle.bw_mask.specs.Masks.{bit_of}
use Rattle.bw_lane.proofs.Joins.{AreJoined}
use Rattle.bw_horizontal.proofs.Marks.{passing}
use Rattle.bw_horizontal.proofs.planes.rows_with_bit.Given as goal

-- the words so far
abbrev pub invariant-loop-n : goal.invariant-loop-n
invariant-loop-n l = AreJoined l.masks.width (passing l.masks.width (λ code. bit_of code l.i) l.words l.q) l.n l.rows
