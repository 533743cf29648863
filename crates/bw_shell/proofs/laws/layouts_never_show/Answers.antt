use Rattle.bw_shell.proofs.Layouts.{one_reply}
use Rattle.bw_shell.proofs.laws.layouts_never_show.Goals as goal

pub returns : goal.returns
returns c store other said also table twin name alias query here there named filled = one_reply table twin named filled query store other said also name alias here there
