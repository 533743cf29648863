use Rattle.std.proofs.Common.{sym, ◌∙◌}
use Rattle.bw_vertical.proofs.Descending.{greater_with, greater_without, no_row_left, row_left}
use Rattle.bw_vertical.proofs.descent.Reached.greater.Goals as goal

pub returns-then-is_empty-clause-greatest : goal.returns-then-is_empty-clause-greatest
returns-then-is_empty-clause-greatest c has code next grows so_far =
    greater_without has code next c.args.plane.now c.both-left.result c.args.self grows so_far c.both-left.ensures (no_row_left c.both-left.result (sym c.if-is_empty.true ∙ c.is_empty.ensures))

pub returns-else-is_empty-clause-greatest : goal.returns-else-is_empty-clause-greatest
returns-else-is_empty-clause-greatest c has code next grows so_far =
    greater_with has code next c.args.plane.now c.both-left.result c.args.self grows so_far c.both-left.ensures (row_left c.both-left.result (sym c.if-is_empty.false ∙ c.is_empty.ensures))
