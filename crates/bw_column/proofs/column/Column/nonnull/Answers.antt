use Rattle.bw_column.specs.Storing.{list_of}
use Rattle.bw_column.proofs.Rows.{known_rows}
use Rattle.bw_column.proofs.column.Column.nonnull.Goals as goal

pub returns-clause-rows : goal.returns-clause-rows
returns-clause-rows c i = rw (← c.self.view_is) (known_rows c.self.inside.encoding (list_of c.self.inside.codes) c.self.inside.nonnull c.self.invariant i)
