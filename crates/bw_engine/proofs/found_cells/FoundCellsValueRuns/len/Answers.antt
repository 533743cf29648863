use Rattle.std.proofs.Common.{sym, ◌∙◌}
use Rattle.bw_engine.specs.Runs.{slots_of}
use Rattle.bw_engine.proofs.CellLaws.{slots_long}
use Rattle.bw_engine.proofs.FoundRuns.{runs_counted}
use Rattle.bw_engine.proofs.found_cells.FoundCellsValueRuns.len.Goals as goal

pub returns : goal.returns
returns g c =
    let self = c.args.self.now in
    let cells = g.C.SlotCells.cells self.cells.now in
    c.count.ensures.rows ∙ sym (runs_counted 0 (slots_of cells) self.found.now (self.found_is ∙ sym (slots_long cells)))
