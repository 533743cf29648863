use Rattle.std.proofs.Common.{arith, get_or, length, ◌<◌, ◌==◌}
use Rattle.bw_aggregate.proofs.DigitCounts.{added_at, one_at_most, run_counted}
use Rattle.bw_aggregate.proofs.digits.count_run.Goals as goal

pub codes-preserved : goal.codes-preserved
codes-preserved c =
    let codes = c.args.codes.now in
    let digits = c.args.digits in
    let i = c.codes.i in
    let place = c.place_of-place.result in
    let there : place < length c.codes.counts = omega (arith, c.place_of-place.ensures.within, c.codes.auto.counts, c.requires.long) in
    record {
      small = λ k. omega (arith, added_at c.codes.counts place k there, one_at_most (place == k), c.codes.invariant.small k);
      counted = λ need all at d same is run low.
          run_counted need codes all at c.args.rows i digits.below digits.first d place digits.many (get_or c.args.counts.now d 0) (get_or c.codes.counts d 0) _ same is run (omega arith) low
          c.place_of-place.ensures.is_in c.place_of-place.ensures.out (added_at c.codes.counts place d there) (c.codes.invariant.counted need all at d same is run low);
    }
