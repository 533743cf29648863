use Rattle.bw_column.proofs.column.Column.rebuilt_in.Goals as goal

pub grown_in-requires-clause-own_stands : goal.grown_in-requires-clause-own_stands
grown_in-requires-clause-own_stands c = rw c.deref.ensures.value c.in_ok-stands.ensures.stands
