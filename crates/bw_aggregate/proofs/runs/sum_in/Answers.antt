use Rattle.std.proofs.Common.{arith, get_or, length}
use Rattle.bw_mask.specs.Masks.{bit_of}
use Rattle.bw_aggregate.proofs.RowsMore.{few_in, sum_row}
use Rattle.bw_aggregate.proofs.runs.sum_in.Goals as goal

pub codes-preserved : goal.codes-preserved
codes-preserved c =
    let codes = c.args.codes.now in
    let i = c.codes.i in
    let small = few_in (bit_of c.args.rows i) (get_or codes i 0) (c.requires.narrow i 0 (omega arith)) in
    record {
      sums = λ need all at same is run. sum_row need at (length codes) c.args.rows run codes all i c.code_in-sum.result c.codes.sum same is (omega arith) (omega arith) c.code_in-sum.ensures (c.codes.invariant.sums need all at same is run);
      small = omega (arith, small, c.code_in-sum.ensures, c.codes.invariant.small);
    }
