use Rattle.std.proofs.Common.{arith, get_or}
use Rattle.bw_column.proofs.Extremes.{greatest_seen}
use Rattle.bw_column.proofs.ends.greatest_of.Goals as goal

pub loop-i-preserved : goal.loop-i-preserved
loop-i-preserved c has all = greatest_seen c.args.start c.loop-i.i has (λ i. get_or c.args.codes.now i 0) c.loop-i.greatest c.max-greatest.result (c.loop-i.invariant has all) (all c.loop-i.i (omega arith)) c.max-greatest.ensures
