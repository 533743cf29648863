use Rattle.std.proofs.Common.{ap, length, subst, sum, sym, ◌+◌, ◌∙◌}
use Rattle.bw_aggregate.specs.Runs.{IsRun, code_sum}
use Rattle.bw_aggregate.proofs.RowsMore.{sum_whole}
use Rattle.bw_aggregate.proofs.runs.narrow_sum.Goals as goal

pub returns-then-rows-eq18446744073709551615-clause-sum : goal.returns-then-rows-eq18446744073709551615-clause-sum
returns-then-rows-eq18446744073709551615-clause-sum c need all at same is run =
    sum_whole need all at (length c.args.codes.now) c.requires.few same (subst (λ w. IsRun need at (length c.args.codes.now) w) c.if-rows-eq18446744073709551615.true run)
    ∙ ap (λ s. code_sum need all at + s) (sym (c.sum_all.ensures.is ∙ ap sum is))
