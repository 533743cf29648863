use Rattle.std.proofs.Common.{arith, get_or}
use Rattle.bw_column.proofs.Extremes.{least_seen}
use Rattle.bw_column.proofs.ends.least_of.Goals as goal

pub loop-i-preserved : goal.loop-i-preserved
loop-i-preserved c has all = least_seen c.args.start c.loop-i.i has (λ i. get_or c.args.codes.now i 0) c.loop-i.least c.min-least.result (c.loop-i.invariant has all) (all c.loop-i.i (omega arith)) c.min-least.ensures
