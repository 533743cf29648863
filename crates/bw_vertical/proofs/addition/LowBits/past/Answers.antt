use Rattle.std.proofs.Common.{sym, ◌∙◌}
use Rattle.bw_lane.proofs.Bits.{all_rows}
use Rattle.bw_vertical.proofs.Sums.{past_carry, past_lift}
use Rattle.bw_vertical.proofs.addition.LowBits.past.Goals as goal

pub returns-then-is_longer : goal.returns-then-is_longer
returns-then-is_longer c j x y h low before = all_rows j h ∙ sym (past_lift x c.args.lift c.args.n (sym c.is_longer.ensures ∙ c.if-is_longer.true))

pub returns-else-is_longer : goal.returns-else-is_longer
returns-else-is_longer c j x y h low before = before.carry_is ∙ past_carry x c.args.lift c.args.n low (sym c.is_longer.ensures ∙ c.if-is_longer.false)
