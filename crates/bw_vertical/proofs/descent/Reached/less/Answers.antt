use Rattle.std.proofs.Common.{sym, ◌∙◌}
use Rattle.bw_vertical.proofs.Descending.{less_with, less_without, no_row_left, row_left}
use Rattle.bw_vertical.proofs.descent.Reached.less.Goals as goal

pub returns-then-is_empty-clause-least : goal.returns-then-is_empty-clause-least
returns-then-is_empty-clause-least c has code next grows so_far =
    less_with has code next c.args.plane.now c.without-left.result c.args.self grows so_far c.without-left.ensures (no_row_left c.without-left.result (sym c.if-is_empty.true ∙ c.is_empty.ensures))

pub returns-else-is_empty-clause-least : goal.returns-else-is_empty-clause-least
returns-else-is_empty-clause-least c has code next grows so_far =
    less_without has code next c.args.plane.now c.without-left.result c.args.self grows so_far c.without-left.ensures (row_left c.without-left.result (sym c.if-is_empty.false ∙ c.is_empty.ensures))
