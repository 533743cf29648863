use Rattle.std.proofs.Common.{length}
use Rattle.bw_sql.specs.Reading.{after_comma, choice_at}
use Rattle.bw_sql.proofs.ListRuns.{Runs}
use Rattle.bw_sql.proofs.parser.Parser.choices.Given as goal

abbrev pub invariant-loop-choices : goal.invariant-loop-choices
invariant-loop-choices l = Runs after_comma (λ _. choice_at) l.fn.self.rest.now l.choices.items l.self.rest.now

abbrev pub decreases-loop-choices : goal.decreases-loop-choices
decreases-loop-choices l = length l.self.rest.now
