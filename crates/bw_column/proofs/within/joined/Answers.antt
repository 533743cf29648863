use Rattle.std.proofs.Common.{arith, below_more, get_or, pow_pos, ◌<◌, ◌^◌}
use Rattle.std.proofs.lemmas.Nat.{le_or_l, le_or_r, or_lt}
use Rattle.bw_column.proofs.within.joined.Goals as goal

pub loop-i-init : goal.loop-i-init
loop-i-init c w = (λ small k h. absurd (omega (arith, h)), λ all. pow_pos w)

pub loop-i-preserved : goal.loop-i-preserved
loop-i-preserved c w =
    let i = c.loop-i.i in
    let bits = c.loop-i.bits in
    let more = get_or c.args.distances.now i 0 in
    let before = c.loop-i.invariant w in (
      λ small. below_more (λ k. get_or c.args.distances.now k 0 < 2 ^ w) i (before.0 (omega (arith, small, le_or_l bits more))) (omega (arith, small, le_or_r bits more)),
      λ all. or_lt w bits more (before.1 (λ k h. all k (omega (arith, h)))) (all i (omega arith)),
    )

pub returns : goal.returns
returns c w =
    let all = c.loop-i.invariant w in (
      λ small k h. all.0 small k (omega (arith, h, c.loop-i-test.false)),
      λ each. all.1 (λ k h. each k (omega (arith, h, c.loop-i.auto.i-end))),
    )
