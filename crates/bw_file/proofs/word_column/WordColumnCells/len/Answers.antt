use Rattle.std.proofs.Common.{ap, length, sym, ◌∙◌}
use Rattle.bw_file.proofs.Lent.{length-cells_in}
use Rattle.bw_file.proofs.word_column.WordColumnCells.len.Goals as goal

pub returns : goal.returns
returns c = sym (ap length (sym c.self.view_is) ∙ length-cells_in c.self.inside.rows c.self.inside.present.now c.self.inside.words.now)
