use Rattle.std.proofs.Common.{length}
use Rattle.bw_sql.specs.Reading.{after_comma, set_at}
use Rattle.bw_sql.proofs.ListRuns.{Runs}
use Rattle.bw_sql.proofs.parser.Parser.set_clauses.Given as goal

abbrev pub invariant-loop-sets : goal.invariant-loop-sets
invariant-loop-sets l = Runs after_comma (λ _. set_at) l.fn.self.rest.now l.sets.items l.self.rest.now

abbrev pub decreases-loop-sets : goal.decreases-loop-sets
decreases-loop-sets l = length l.self.rest.now
