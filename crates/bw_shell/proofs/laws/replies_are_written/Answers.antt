use Rattle.bw_shell.proofs.Written.{wrote_replies}
use Rattle.bw_shell.proofs.laws.replies_are_written.Goals as goal

pub returns : goal.returns
returns c = wrote_replies
