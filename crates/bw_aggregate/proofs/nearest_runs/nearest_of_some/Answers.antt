use Rattle.std.proofs.Common.{get_or}
use Rattle.bw_mask.specs.Masks.{bit_of}
use Rattle.bw_aggregate.specs.declared.end.End.TheVariants.{Greatest, Least}
use Rattle.bw_aggregate.proofs.Nearest.{nearest_one}
use Rattle.bw_aggregate.proofs.nearest_runs.nearest_of_some.Goals as goal

pub codes-preserved : goal.codes-preserved
codes-preserved c =
    let i = c.codes.i in
    record {
      least = nearest_one i (bit_of c.args.rows) (λ j. get_or c.args.codes.now j 0) Least c.args.top c.args.best.least c.codes.least c.nearer-least.result
          (rw (← c.has_bit-is_in.ensures, ← c.distance.ensures.is) c.nearer-least.ensures) c.codes.invariant.least;
      greatest = nearest_one i (bit_of c.args.rows) (λ j. get_or c.args.codes.now j 0) Greatest c.args.top c.args.best.greatest c.codes.greatest c.nearer-greatest.result
          (rw (← c.has_bit-is_in.ensures, ← c.distance-in-codes.ensures.is) c.nearer-greatest.ensures) c.codes.invariant.greatest;
    }
