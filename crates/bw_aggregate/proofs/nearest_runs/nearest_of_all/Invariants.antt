use Rattle.std.proofs.Common.{get_or, true, ℕ}
use Rattle.bw_aggregate.specs.Ends.{IsNearest}
use Rattle.bw_aggregate.specs.declared.end.End.TheVariants.{Greatest, Least}
use Rattle.bw_aggregate.proofs.nearest_runs.nearest_of_all.Given as goal

abbrev pub invariant-codes : goal.invariant-codes
invariant-codes l = record {
  least : IsNearest l.i (λ (j : ℕ). true) (λ j. get_or l.codes j 0) Least l.top l.fn.best.least l.least;
  greatest : IsNearest l.i (λ (j : ℕ). true) (λ j. get_or l.codes j 0) Greatest l.top l.fn.best.greatest l.greatest;
}
