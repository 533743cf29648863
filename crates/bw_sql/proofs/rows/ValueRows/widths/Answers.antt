use Rattle.std.proofs.Common.{◌∙◌, sym, ap, length, map}
use Rattle.bw_sql.proofs.RowLemmas.{widths-rows_of}
use Rattle.bw_sql.proofs.rows.ValueRows.widths.Goals as goal

pub returns : goal.returns
returns c =
    c.deref.ensures.value ∙ sym (widths-rows_of c.self.inside.widths.items c.self.inside.values.items c.self.invariant) ∙ ap (map length) c.self.view_is
