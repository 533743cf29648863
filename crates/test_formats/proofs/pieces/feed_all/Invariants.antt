use Rattle.std.proofs.Common.{◌≡◌, length}
use Rattle.bw_split.specs.declared.progress.Stage.TheVariants as stage
use Rattle.test_formats.proofs.pieces.feed_all.Given as goal

abbrev pub invariant-loop-taken : goal.invariant-loop-taken
invariant-loop-taken g l = l.splitter.stage ≡ stage.Begun

abbrev pub decreases-loop-taken : goal.decreases-loop-taken
decreases-loop-taken g l = length l.rest
