use Rattle.std.proofs.Common.{◌*◌}
use Rattle.bw_mask.specs.Masks.{row_at}
use Rattle.bw_vertical.specs.Descents.{AreEndsSoFar}
use Rattle.bw_vertical.specs.Storage.{code_of, lists}
use Rattle.bw_vertical.proofs.descent.code_ends.Given as goal

-- the ends of the segments so far
abbrev pub invariant-segments : goal.invariant-segments
invariant-segments l = AreEndsSoFar (row_at l.rows) (code_of l.k (lists l.groups)) (256 * l.q) l.ends
