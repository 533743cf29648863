use Rattle.std.proofs.Common.{length}
use Rattle.bw_sql.specs.Reading.{after_comma, item_at}
use Rattle.bw_sql.proofs.ListRuns.{Runs}
use Rattle.bw_sql.proofs.parser.Parser.item_list.Given as goal

abbrev pub invariant-loop-items : goal.invariant-loop-items
invariant-loop-items l = Runs after_comma (λ _. item_at) l.fn.self.rest.now l.items.items l.self.rest.now

abbrev pub decreases-loop-items : goal.decreases-loop-items
decreases-loop-items l = length l.self.rest.now
