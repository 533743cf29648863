use Rattle.bw_byteslice.specs.Storing.{bytes_of}
use Rattle.bw_byteslice.proofs.Keeping.{codes_fit}
use Rattle.bw_byteslice.proofs.column.SliceColumnCodeColumn.width.Goals as goal

pub returns-clause-fit : goal.returns-clause-fit
returns-clause-fit c = rw (← c.self.view_is) (codes_fit c.self.inside.width c.self.inside.len (bytes_of c.self.inside.slices.items) c.self.invariant)
