use Rattle.std.proofs.Common.{arith}
use Rattle.std.proofs.lemmas.List.Sums.{sum_by_more}
use Rattle.bw_aggregate.proofs.runs.sum_all.Goals as goal

pub codes-preserved : goal.codes-preserved
codes-preserved c =
    let codes = c.args.codes.now in
    let i = c.codes.i in
    let more = sum_by_more (λ x. x) codes i 0 (omega (arith, c.codes-test.true)) in
    let small = c.requires.narrow i 0 (omega (arith, c.codes-test.true)) in
    record { sum = omega (arith, more, c.codes.invariant.sum); small = omega (arith, small, c.codes.invariant.small) }
