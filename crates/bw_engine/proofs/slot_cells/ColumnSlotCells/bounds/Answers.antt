use Rattle.bw_cells.specs.SetFunctions.{known}
use Rattle.bw_engine.proofs.CellLaws.{bounded_by, ended_by}
use Rattle.bw_engine.proofs.slot_cells.ColumnSlotCells.bounds.Goals as goal

pub returns-then-are_close : goal.returns-then-are_close
returns-then-are_close c = bounded_by (known c.args.self.now.values) c.bounds-told.result c.bounds-told.ensures

pub returns : goal.returns
returns c = ended_by (known c.args.self.now.values) c.ends.result c.ends.ensures
