use Rattle.std.proofs.lemmas.Bool.{not-false}
use Rattle.bw_split.proofs.StretchLemmas.{in_blanks, in_comment, not_blank, outside}
use Rattle.bw_split.proofs.stretch.next_stretch.Goals as goal

pub returns-in-Comment : goal.returns-in-Comment
returns-in-Comment c = in_comment _ _ c.args.bytes.now _ c.in-Comment.is c.len_before.ensures

pub returns-in-Outside : goal.returns-in-Outside
returns-in-Outside c = outside _ _ c.args.bytes.now _ c.in-Outside.is (not_blank _ c.if-not-progress.true) c.outside.ensures

pub returns-in-Outside-2 : goal.returns-in-Outside-2
returns-in-Outside-2 c = in_blanks _ _ c.args.bytes.now _ c.in-Outside-2.is (not-false _ c.if-not-progress.false) c.blank_len.ensures
