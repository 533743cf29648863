use Rattle.std.proofs.Common.{◌∙◌, arith}
use Rattle.bw_engine.proofs.Steps.{tables_count}
use Rattle.bw_shell.specs.States.{store_in}
use Rattle.bw_shell.proofs.OtherFiles.{known_by, parts_stay}
use Rattle.bw_shell.proofs.Saves.{held_by, open_free, opened, saved}
use Rattle.bw_shell.proofs.laws.saved_tables_open_later.Goals as goal

pub returns : goal.returns
returns c script before after later last parts replies name file other n reply known saving between elsewhere free room opening =
    let s = saved before after name file n known saving in
    let stays = parts_stay script after later parts replies file (known_by after.files file s.bytes s.filed) elsewhere between in
    (s.table, s.there, s.counted, opened s.bytes s.table (held_by s.bytes s.table s.holds) s.fits later last other file reply (stays.same ∙ s.filed) (open_free (store_in later) other file free (omega (arith, room, tables_count later.tables))) opening)
