use Rattle.bw_engine.proofs.MeasuredRuns.{values_fit}
use Rattle.bw_engine.proofs.slot_cells.ColumnSlotCells.len.Goals as goal

pub returns-clause-fit : goal.returns-clause-fit
returns-clause-fit c = values_fit c.args.self.now.layout c.args.self.now.values c.len.ensures.held
