use Rattle.std.proofs.Common.{◌∙◌, arith}
use Rattle.bw_engine.proofs.Steps.{tables_count}
use Rattle.bw_shell.specs.States.{store_in}
use Rattle.bw_shell.proofs.Saves.{held_by, open_free, opened, saved}
use Rattle.bw_shell.proofs.laws.saved_tables_open.Goals as goal

pub returns : goal.returns
returns c before after later last name file other n reply known saving same free room opening =
    let s = saved before after name file n known saving in
    (s.table, s.there, s.counted, opened s.bytes s.table (held_by s.bytes s.table s.holds) s.fits later last other file reply (same ∙ s.filed) (open_free (store_in later) other file free (omega (arith, room, tables_count later.tables))) opening)
