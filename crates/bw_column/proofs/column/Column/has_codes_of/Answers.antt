use Rattle.bw_column.proofs.column.Column.has_codes_of.Goals as goal

pub returns-then-eq : goal.returns-then-eq
returns-then-eq c = rw (← c.self.view_is, c.in-Offset.is) (c.spans.ensures c.args.other.now.values c.ends.ensures)

pub returns : goal.returns
returns c = rw (← c.self.view_is, c.in-Offset.is) c.lies_within.ensures
