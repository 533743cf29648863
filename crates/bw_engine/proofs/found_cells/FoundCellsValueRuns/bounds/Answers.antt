use Rattle.bw_mask.specs.Masks.{row_at}
use Rattle.bw_engine.proofs.CellLaws.{found_bounded}
use Rattle.bw_engine.proofs.found_cells.FoundCellsValueRuns.bounds.Goals as goal

pub returns : goal.returns
returns g c =
    let self = c.args.self.now in
    found_bounded (g.C.SlotCells.cells self.cells.now) (row_at self.found.now) c.bounds.result c.bounds.ensures
