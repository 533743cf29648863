use Rattle.bw_column.proofs.column.Column.has_codes_for.Goals as goal

pub returns : goal.returns
returns g c = rw (← c.self.view_is, c.in-Offset.is) (c.spans.ensures (g.C.Cells.cells c.args.values.now) c.ends.ensures)
