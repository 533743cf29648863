use Rattle.std.proofs.Common.{length}
use Rattle.bw_sql.proofs.RowRuns.{ValuesSoFar}
use Rattle.bw_sql.proofs.parser.Parser.values.Given as goal

abbrev pub invariant-loop-values : goal.invariant-loop-values
invariant-loop-values l = ValuesSoFar l.fn.values.items l.values.items l.width l.fn.self.rest.now l.self.rest.now

abbrev pub decreases-loop-values : goal.decreases-loop-values
decreases-loop-values l = length l.self.rest.now
