use Rattle.std.proofs.Common.{refl, ◌∙◌}
use Rattle.bw_mask.proofs.Bits.{bit_of_not}
use Rattle.bw_code.proofs.lanes.Interval.rows.Goals as goal

pub returns-else-self : goal.returns-else-self
returns-else-self c i h = bit_of_not c.rows_between-inside.result i c.rows_between-inside.type_inv h ∙ rw (c.rows_between-inside.ensures i h, c.if-self.false) refl
