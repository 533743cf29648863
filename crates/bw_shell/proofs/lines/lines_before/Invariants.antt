use Rattle.std.proofs.Common.{length, ◌++◌, ◌≡◌}
use Rattle.bw_model.specs.Answers.{AreWholeLines, lines_of}
use Rattle.bw_model.specs.Cells.{shown_all}
use Rattle.bw_model.specs.ReplyText.{lines_text}
use Rattle.bw_shell.proofs.lines.lines_before.Given as goal

-- the lines that are left and the text so far are the lines and the text before
abbrev pub invariant-loop-rest : goal.invariant-loop-rest
invariant-loop-rest l = record {
  whole : AreWholeLines l.width (shown_all l.rest);
  text : lines_text (lines_of l.width (shown_all l.values)) ++ l.fn.text ≡ lines_text (lines_of l.width (shown_all l.rest)) ++ l.text;
}

abbrev pub decreases-loop-rest : goal.decreases-loop-rest
decreases-loop-rest l = length l.rest
