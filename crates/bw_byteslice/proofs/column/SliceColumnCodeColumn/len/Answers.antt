use Rattle.std.proofs.Common.{sym}
use Rattle.bw_code.proofs.Lists.{made_len}
use Rattle.bw_byteslice.specs.Storing.{bytes_of, code_of}
use Rattle.bw_byteslice.proofs.column.SliceColumnCodeColumn.len.Goals as goal

pub returns-clause-count : goal.returns-clause-count
returns-clause-count c = rw (← c.self.view_is) (sym (made_len c.self.inside.len (code_of c.self.inside.width (bytes_of c.self.inside.slices.items))))
