use Rattle.std.proofs.Common.{arith}
use Rattle.std.proofs.lemmas.List.{drop_all}
use Rattle.bw_shell.proofs.backward_text.BackwardText.clear.Goals as goal

pub returns : goal.returns
returns c = drop_all 4096 c.self.inside.bytes (omega arith)
