use Rattle.std.proofs.Common.{◌∙◌, sym, ap}
use Rattle.bw_sql.specs.Rows.{joined}
use Rattle.bw_sql.proofs.RowLemmas.{joined-rows_of}
use Rattle.bw_sql.proofs.rows.ValueRows.into_values.Goals as goal

pub returns : goal.returns
returns c = sym (joined-rows_of c.self.inside.widths.items c.self.inside.values.items c.self.invariant) ∙ ap joined c.self.view_is
