use Rattle.std.proofs.Common.{length}
use Rattle.bw_shell.proofs.Texts.{Progress}
use Rattle.bw_shell.proofs.writing.put.Given as goal

abbrev pub invariant-loop-rest : goal.invariant-loop-rest
invariant-loop-rest g l = Progress (g.W.Write.contents l.fn.writer) (g.W.Write.contents l.writer) l.bytes l.rest

abbrev pub decreases-loop-rest : goal.decreases-loop-rest
decreases-loop-rest g l = length l.rest
