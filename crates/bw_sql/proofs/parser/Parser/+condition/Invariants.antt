use Rattle.std.proofs.Common.{length, ◌+◌, ◌*◌}
use Rattle.bw_sql.specs.Reading.{after_and, after_or, factor_by, primary_at, term_by}
use Rattle.bw_sql.specs.Tree.{conditions_in}
use Rattle.bw_sql.proofs.ListRuns.{Runs}
use Rattle.bw_sql.proofs.parser.Parser.+condition.Given as goal

abbrev pub decreases-primary : goal.decreases-primary
decreases-primary l = 8 * length l.self.now.rest.now

abbrev pub decreases-test : goal.decreases-test
decreases-test l = 8 * length l.self.now.rest.now + 1

abbrev pub decreases-factor : goal.decreases-factor
decreases-factor l = 8 * length l.self.now.rest.now + 2

abbrev pub decreases-factors : goal.decreases-factors
decreases-factors l = 8 * length l.self.now.rest.now + 3

abbrev pub decreases-term : goal.decreases-term
decreases-term l = 8 * length l.self.now.rest.now + 4

abbrev pub decreases-terms : goal.decreases-terms
decreases-terms l = 8 * length l.self.now.rest.now + 5

abbrev pub decreases-condition : goal.decreases-condition
decreases-condition l = 8 * length l.self.now.rest.now + 6

abbrev pub invariant-factors-loop-parts : goal.invariant-factors-loop-parts
invariant-factors-loop-parts l =
    Runs after_and (λ n. factor_by (primary_at n)) l.fn.self.rest.now (conditions_in l.parts) l.self.rest.now

abbrev pub decreases-factors-loop-parts : goal.decreases-factors-loop-parts
decreases-factors-loop-parts l = length l.self.rest.now

abbrev pub invariant-terms-loop-parts : goal.invariant-terms-loop-parts
invariant-terms-loop-parts l =
    Runs after_or (λ n. term_by (primary_at n) n) l.fn.self.rest.now (conditions_in l.parts) l.self.rest.now

abbrev pub decreases-terms-loop-parts : goal.decreases-terms-loop-parts
decreases-terms-loop-parts l = length l.self.rest.now
