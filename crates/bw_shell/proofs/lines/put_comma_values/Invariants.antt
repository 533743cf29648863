use Rattle.std.proofs.Common.{drop}
use Rattle.bw_model.specs.ReplyText.{with_commas}
use Rattle.bw_shell.specs.ValueTexts.{value_text}
use Rattle.bw_shell.proofs.Texts.{Progress, others_text}
use Rattle.bw_shell.proofs.lines.put_comma_values.Given as goal

abbrev pub invariant-loop-value : goal.invariant-loop-value
invariant-loop-value g l = Progress (g.W.Write.contents l.fn.writer) (g.W.Write.contents l.writer) (with_commas value_text l.values) (others_text value_text (drop l.value-index l.others))
