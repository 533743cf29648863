use Rattle.std.proofs.Common.{get_or}
use Rattle.bw_mask.specs.Masks.{bit_of}
use Rattle.bw_aggregate.specs.Ends.{IsNearest}
use Rattle.bw_aggregate.specs.declared.end.End.TheVariants.{Greatest, Least}
use Rattle.bw_aggregate.proofs.nearest_runs.nearest_of_some.Given as goal

abbrev pub invariant-codes : goal.invariant-codes
invariant-codes l = record {
  least : IsNearest l.i (bit_of l.rows) (λ j. get_or l.codes j 0) Least l.top l.fn.best.least l.least;
  greatest : IsNearest l.i (bit_of l.rows) (λ j. get_or l.codes j 0) Greatest l.top l.fn.best.greatest l.greatest;
}
