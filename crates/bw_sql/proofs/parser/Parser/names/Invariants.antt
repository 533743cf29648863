use Rattle.std.proofs.Common.{length}
use Rattle.bw_sql.specs.Reading.{after_comma, name_at}
use Rattle.bw_sql.proofs.ListRuns.{Runs}
use Rattle.bw_sql.proofs.parser.Parser.names.Given as goal

abbrev pub invariant-loop-names : goal.invariant-loop-names
invariant-loop-names l = Runs after_comma (λ _. name_at) l.fn.self.rest.now l.names.items l.self.rest.now

abbrev pub decreases-loop-names : goal.decreases-loop-names
decreases-loop-names l = length l.self.rest.now
