use Rattle.std.proofs.Common.{sym, ◌∙◌}
use Rattle.bw_engine.proofs.CodeLaws.{codes_long, same_known}
use Rattle.bw_engine.proofs.code_cells.CodeCellsSlotCells.nonnull.Goals as goal

pub returns-clause-len : goal.returns-clause-len
returns-clause-len c = c.nonnull.ensures.len ∙ sym (codes_long c.args.self.now.column.now.encoding c.args.self.now.column.now.values)

pub returns-clause-rows : goal.returns-clause-rows
returns-clause-rows c i = c.nonnull.ensures.rows i ∙ sym (same_known c.args.self.now.column.now.encoding c.args.self.now.column.now.values i)
