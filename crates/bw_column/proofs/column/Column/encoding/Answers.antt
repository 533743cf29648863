use Rattle.bw_column.specs.Storing.{list_of}
use Rattle.bw_column.proofs.Rows.{row_coded}
use Rattle.bw_column.proofs.column.Column.encoding.Goals as goal

pub returns-clause-coded : goal.returns-clause-coded
returns-clause-coded c = rw (← c.self.view_is) (row_coded c.self.inside.encoding (list_of c.self.inside.codes) c.self.inside.nonnull c.self.invariant)
