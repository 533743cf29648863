use Rattle.std.proofs.Common.{◌*◌}
use Rattle.bw_file.specs.Cells.{presence_size}
use Rattle.bw_vertical.specs.Descents.{AreCodeEnds}
use Rattle.bw_file.specs.Planes.{code_in, has_in}
use Rattle.bw_file.proofs.code_ends.code_ends.Given as goal

-- those of the blocks so far
abbrev pub invariant-runs : goal.invariant-runs
invariant-runs l = AreCodeEnds (has_in l.present) (code_in l.k (presence_size l.rows) l.planes) (4096 * l.b) l.ends
