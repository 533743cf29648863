use Rattle.std.proofs.Common.{arith}
use Rattle.bw_engine.proofs.CodeLaws.{codes_long}
use Rattle.bw_engine.proofs.code_cells.CodeCellsSlotCells.get.Goals as goal

pub code-requires : goal.code-requires
code-requires c = omega (arith, c.requires, codes_long c.args.self.now.column.now.encoding c.args.self.now.column.now.values)
