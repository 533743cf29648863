use Rattle.std.proofs.Common.{length}
use Rattle.bw_sql.proofs.RowRuns.{RowsSoFar}
use Rattle.bw_sql.proofs.parser.Parser.rows.Given as goal

abbrev pub invariant-loop-widths : goal.invariant-loop-widths
invariant-loop-widths l = RowsSoFar l.values.items l.widths.items l.fn.self.rest.now l.self.rest.now

abbrev pub decreases-loop-widths : goal.decreases-loop-widths
decreases-loop-widths l = length l.self.rest.now
