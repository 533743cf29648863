use Rattle.std.proofs.Common.{ap, length, sym, ◌∙◌}
use Rattle.bw_file.proofs.PlaneEnds.{length-plane_cells}
use Rattle.bw_file.proofs.plane_column.PlaneColumnCells.len.Goals as goal

pub returns : goal.returns
returns c = sym (ap length (sym c.self.view_is) ∙ length-plane_cells c.self.inside.rows c.self.inside.base c.self.inside.width c.self.inside.present.now c.self.inside.planes.now)
