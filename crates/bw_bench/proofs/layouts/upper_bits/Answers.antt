use Rattle.std.proofs.Common.{arith, subst, sym, ◌+◌, ◌-◌, ◌<◌, ◌^◌, ◌≡◌}
use Rattle.std.proofs.lemmas.Nat.{shr_below}
use Rattle.bw_bench.proofs.layouts.upper_bits.Goals as goal

pub returns : goal.returns
returns c =
    let whole : c.args.width + (64 - c.args.width) ≡ 64 = omega arith in
    shr_below c.args.word c.args.width (64 - c.args.width) (subst (λ e. c.args.word < 2 ^ e) (sym whole) c.ranges.word.fits)
