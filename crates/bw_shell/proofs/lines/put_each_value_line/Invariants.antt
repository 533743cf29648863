use Rattle.std.proofs.Common.{length}
use Rattle.bw_model.specs.Answers.{AreWholeLines, lines_of}
use Rattle.bw_model.specs.Cells.{shown_all}
use Rattle.bw_model.specs.ReplyText.{lines_text}
use Rattle.bw_shell.proofs.Texts.{Progress}
use Rattle.bw_shell.proofs.lines.put_each_value_line.Given as goal

abbrev pub invariant-loop-rest : goal.invariant-loop-rest
invariant-loop-rest g l = record {
  whole : AreWholeLines l.width (shown_all l.rest);
  written : Progress (g.W.Write.contents l.fn.writer) (g.W.Write.contents l.writer) (lines_text (lines_of l.width (shown_all l.values))) (lines_text (lines_of l.width (shown_all l.rest)));
}

abbrev pub decreases-loop-rest : goal.decreases-loop-rest
decreases-loop-rest g l = length l.rest
