use Rattle.std.proofs.Common.{arith}
use Rattle.bw_mask.specs.Masks.{row_at}
use Rattle.bw_engine.specs.Runs.{slots_of}
use Rattle.bw_engine.proofs.CellLaws.{slots_long}
use Rattle.bw_engine.proofs.FoundRuns.{runs_count}
use Rattle.bw_engine.proofs.found_cells.FoundCellsValueRuns.run_count.Goals as goal

pub returns : goal.returns
returns g c =
    let self = c.args.self.now in
    let cells = g.C.SlotCells.cells self.cells.now in
    omega (arith, runs_count 0 (slots_of cells) (row_at self.found.now), slots_long cells, c.words.ensures.count, self.found_is)
