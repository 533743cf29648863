use Rattle.bw_mask.proofs.Nexts.{none_here, found_here}
use Rattle.bw_mask.proofs.words.next_row.Goals as goal

pub returns-then-word-ne0 : goal.returns-then-word-ne0
returns-then-word-ne0 c = found_here c.args.words.now c.args.i c.lowest.result c.lowest.ensures.below c.lowest.ensures.set c.lowest.ensures.least

pub loop-k-init : goal.loop-k-init
loop-k-init c = none_here c.args.words.now c.args.i c.if-word-ne0.false
