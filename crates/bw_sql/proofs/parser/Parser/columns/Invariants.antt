use Rattle.std.proofs.Common.{length}
use Rattle.bw_sql.specs.Reading.{after_comma, column_at}
use Rattle.bw_sql.proofs.ListRuns.{Runs}
use Rattle.bw_sql.proofs.parser.Parser.columns.Given as goal

abbrev pub invariant-loop-columns : goal.invariant-loop-columns
invariant-loop-columns l = Runs after_comma (λ _. column_at) l.fn.self.rest.now l.columns.items l.self.rest.now

abbrev pub decreases-loop-columns : goal.decreases-loop-columns
decreases-loop-columns l = length l.self.rest.now
