use Rattle.std.proofs.Common.{subst}
use Rattle.bw_code.specs.Fittings.{AreEnds}
use Rattle.bw_cells.specs.Known.{known}
use Rattle.bw_file.proofs.word_column.WordColumnMeasured.ends.Goals as goal

pub returns : goal.returns
returns c = subst (λ cells. AreEnds (known cells) c.self.inside.ends) c.self.view_is c.self.invariant.measured
