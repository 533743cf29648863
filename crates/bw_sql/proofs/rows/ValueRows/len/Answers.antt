use Rattle.std.proofs.Common.{◌∙◌, sym, ap, length}
use Rattle.bw_sql.proofs.RowLemmas.{length-rows_of}
use Rattle.bw_sql.proofs.rows.ValueRows.len.Goals as goal

pub returns : goal.returns
returns c =
    ap length c.as_slice.ensures.value ∙ sym (length-rows_of c.self.inside.widths.items c.self.inside.values.items) ∙ ap length c.self.view_is
