use Rattle.std.proofs.Common.{◌≡◌, ◌++◌, length}
use Rattle.bw_model.specs.Answers.{AreWholeLines, lines_of}
use Rattle.bw_model.specs.ReplyText.{lines_text}
use Rattle.bw_model.proofs.texts.lines_text.Given as goal

abbrev pub invariant-loop-rest : goal.invariant-loop-rest
invariant-loop-rest l = record {
  whole : AreWholeLines l.width l.rest;
  text : l.text.items ++ lines_text (lines_of l.width l.rest) ≡ lines_text (lines_of l.width l.cells);
}

abbrev pub decreases-loop-rest : goal.decreases-loop-rest
decreases-loop-rest l = length l.rest
