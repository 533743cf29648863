use Rattle.bw_shell.proofs.Joined.{joined, split}
use Rattle.bw_shell.proofs.laws.scripts_join.Goals as goal

pub returns : goal.returns
returns c = record {
  joined = λ on_error script other state old new end last cut turns. joined on_error script other state old new end last cut turns;
  split = λ on_error script other state old new end last cut answer. split on_error script other state old new end last cut answer;
}
