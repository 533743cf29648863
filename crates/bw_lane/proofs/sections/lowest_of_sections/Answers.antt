use Rattle.std.proofs.Common.{◌+◌, ◌*◌, ◌^◌, ◌%◌, bit_or, ap, ◌∙◌}
use Rattle.bw_lane.proofs.Kernels.{next_lowest}
use Rattle.bw_lane.proofs.sections.lowest_of_sections.Goals as goal

pub loop-t-preserved : goal.loop-t-preserved
loop-t-preserved c =
    ap (λ n. bit_or (n * 2 ^ (c.args.width + 1) % 2 ^ 64) 1) c.loop-t.invariant ∙ next_lowest c.args.width c.loop-t._t c.loop-t-test.true
