use Rattle.std.proofs.Common.{refl, ◌∙◌}
use Rattle.bw_mask.proofs.Bits.{bit_of_not}
use Rattle.bw_code.proofs.wide_lanes.WideInterval.rows.Goals as goal

pub returns-else-self : goal.returns-else-self
returns-else-self c i h = bit_of_not c.between-inside.result i c.between-inside.type_inv h ∙ rw (c.between-inside.ensures i h, c.if-self.false) refl
