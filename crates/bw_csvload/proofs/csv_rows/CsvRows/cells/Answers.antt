use Rattle.std.proofs.Common.{ap, sym, ◌∙◌}
use Rattle.std.specs.List.{flat_map}
use Rattle.bw_csvload.specs.Forms.{cells_in}
use Rattle.bw_csvload.proofs.Lines.{joined-lines_of}
use Rattle.bw_csvload.proofs.csv_rows.CsvRows.cells.Goals as goal

pub returns : goal.returns
returns c = c.as_cells.ensures ∙ sym (joined-lines_of c.self.inside.width c.self.inside.count (cells_in c.self.inside.cells) c.self.invariant) ∙ ap (λ rows. flat_map (λ row. row) rows) c.self.view_is
