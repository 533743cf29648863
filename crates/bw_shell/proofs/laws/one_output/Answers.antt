use Rattle.bw_shell.proofs.Outputs.{one_output}
use Rattle.bw_shell.proofs.laws.one_output.Goals as goal

pub returns : goal.returns
returns c = one_output
