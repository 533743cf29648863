use Rattle.bw_sql.proofs.RowLemmas.{rows_as_wide, widths_as_rows}
use Rattle.bw_sql.proofs.rows.ValueRows.are_all_of_width.Goals as goal

pub returns : goal.returns
returns c =
    let n = c.args.width in
    let widths = c.self.inside.widths.items in
    let values = c.self.inside.values.items in (
      λ yes_all. rw (← c.self.view_is) (rows_as_wide n widths values c.self.invariant (rw c.as_slice.ensures.value at (c.are_all.ensures.0 yes_all))),
      λ all. c.are_all.ensures.1 (rw c.as_slice.ensures.value (widths_as_rows n widths values c.self.invariant (rw (← c.self.view_is) at all))),
    )
