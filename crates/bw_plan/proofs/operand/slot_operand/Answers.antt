use Rattle.std.proofs.Common.{sym}
use Rattle.bw_plan.proofs.Operanding.{column_length, column_value, past_value}
use Rattle.bw_plan.proofs.operand.slot_operand.Goals as goal

pub returns-then-place-width-clause-long : goal.returns-then-place-width-clause-long
returns-then-place-width-clause-long c = rw c.column.ensures.values (column_length c.args.slots.now.slots c.in-Place.place)

pub returns-then-place-width-clause-values : goal.returns-then-place-width-clause-values
returns-then-place-width-clause-values c i = rw (c.column.ensures.values, c.in-Place.is) (column_value c.args.slots.now.slots c.in-Place.place i)

pub returns-else-place-width-clause-values : goal.returns-else-place-width-clause-values
returns-else-place-width-clause-values c i = rw c.in-Place.is (sym (past_value c.args.slots.now.slots c.width.result c.in-Place.place i (rw c.width.ensures.count c.width.ensures.wide) c.if-place-width.false))

pub returns-in-Constant-clause-values : goal.returns-in-Constant-clause-values
returns-in-Constant-clause-values c i = rw c.in-Constant.is (λ t. c.in-Constant.value)
