use Rattle.std.proofs.Common.{Bool, false, if◌then◌else◌, not, refl, true, ◌≡◌, ◌∙◌}
use Rattle.bw_lane.proofs.Bits.{one_of, row_xor}
use Rattle.bw_mask.specs.Masks.{row_in}
use Rattle.bw_vertical.proofs.rows.differing.Goals as goal

alone : (a b : Bool) → one_of a b ≡ not (if a then b else not b)
alone true true = refl
alone true false = refl
alone false true = refl
alone false false = refl

pub returns : goal.returns
returns c j h = row_xor c.args.a.now c.args.b.now c.told-a c.told-b j h ∙ alone (row_in c.args.a.now j) (row_in c.args.b.now j)
