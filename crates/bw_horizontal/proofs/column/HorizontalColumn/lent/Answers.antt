use Rattle.bw_horizontal.proofs.FullWords.{full_is}
use Rattle.bw_horizontal.proofs.column.HorizontalColumn.lent.Goals as goal

pub returns-then-self-eq-FULL-clause-codes : goal.returns-then-self-eq-FULL-clause-codes
returns-then-self-eq-FULL-clause-codes c =
    let inside = c.self.inside in
    rw (c.deref.ensures.value, ← c.self.view_is) (full_is inside.width inside.len inside.words.items c.if-self-eq-FULL.true c.self.invariant)
