use Rattle.std.proofs.Common.{ap, length, sym, ◌∙◌}
use Rattle.bw_csvload.specs.Forms.{cells_in}
use Rattle.bw_csvload.proofs.Lines.{length-lines_of}
use Rattle.bw_csvload.proofs.csv_rows.CsvRows.len.Goals as goal

pub returns : goal.returns
returns c = sym (length-lines_of c.self.inside.width c.self.inside.count (cells_in c.self.inside.cells)) ∙ ap length c.self.view_is
