use Rattle.std.proofs.Common.{◌≡◌, ◌++◌, drop}
use Rattle.bw_model.specs.ReplyText.{heading_text, with_commas}
use Rattle.bw_model.proofs.Commas.{others_text}
use Rattle.bw_model.proofs.texts.headings_text.Given as goal

abbrev pub invariant-loop-heading : goal.invariant-loop-heading
invariant-loop-heading l = l.text.items ++ others_text heading_text (drop l.heading-index l.others) ≡ with_commas heading_text l.headings
