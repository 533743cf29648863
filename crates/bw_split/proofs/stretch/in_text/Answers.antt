use Rattle.std.proofs.Common.{refl}
use Rattle.bw_split.proofs.StretchLemmas.{in_text}
use Rattle.bw_split.proofs.stretch.in_text.Goals as goal

pub returns-then-progress : goal.returns-then-progress
returns-then-progress c = in_text _ _ _ c.args.bytes.now _ c.requires c.len_before-len.ensures (rw c.if-progress.true refl)

pub returns-else-progress : goal.returns-else-progress
returns-else-progress c = in_text _ _ _ c.args.bytes.now _ c.requires c.len_before-len.ensures (rw c.if-progress.false refl)
