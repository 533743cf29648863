use Rattle.std.proofs.Common.{drop}
use Rattle.bw_model.specs.ReplyText.{heading_text, with_commas}
use Rattle.bw_shell.proofs.Texts.{Progress, others_text}
use Rattle.bw_shell.proofs.reply_text.put_headings.Given as goal

abbrev pub invariant-loop-heading : goal.invariant-loop-heading
invariant-loop-heading g l = Progress (g.W.Write.contents l.fn.writer) (g.W.Write.contents l.writer) (with_commas heading_text l.headings) (others_text heading_text (drop l.heading-index l.others))
