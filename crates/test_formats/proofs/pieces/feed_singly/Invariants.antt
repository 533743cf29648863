use Rattle.std.proofs.Common.{◌≡◌, ◌-◌, length}
use Rattle.bw_split.specs.declared.progress.Stage.TheVariants as stage
use Rattle.test_formats.proofs.pieces.feed_singly.Given as goal

abbrev pub invariant-loop-at : goal.invariant-loop-at
invariant-loop-at g l = l.splitter.stage ≡ stage.Begun

abbrev pub decreases-loop-at : goal.decreases-loop-at
decreases-loop-at g l = length l.bytes - l.at
