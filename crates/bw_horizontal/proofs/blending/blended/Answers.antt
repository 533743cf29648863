use Rattle.std.proofs.Common.{arith, ◌^◌, ◌≤◌}
use Rattle.std.proofs.Math.Nat.{mod-eq_of_lt}
use Rattle.std.proofs.Math.Pow.{pow_mono}
use Rattle.bw_horizontal.proofs.Blends.{mixed_is, mixed_stored, not_below, shifted_low}
use Rattle.bw_horizontal.proofs.blending.blended.Goals as goal

pub constant-requires : goal.constant-requires
constant-requires c = let more : 2 ^ 1 ≤ 2 ^ c.args.masks.width = pow_mono {i = 1} {j = c.args.masks.width} c.requires.some in omega (arith, more)

pub overflow_sub-bits : goal.overflow_sub-bits
overflow_sub-bits c =
    let k = c.args.masks.width in
    let lowest = c.constant.result in
    let low = shifted_low k c.args.rows lowest c.requires.some c.constant.ensures.stored c.constant.ensures.each in
    rw (mod-eq_of_lt low) (not_below k c.args.rows lowest c.requires.some c.constant.ensures.stored c.constant.ensures.each)

pub returns-clause-stored : goal.returns-clause-stored
returns-clause-stored c =
    let k = c.args.masks.width in
    let lowest = c.constant.result in
    let low = shifted_low k c.args.rows lowest c.requires.some c.constant.ensures.stored c.constant.ensures.each in
    rw (mod-eq_of_lt low) (mixed_stored k c.args.rows lowest c.requires.some c.constant.ensures.stored c.constant.ensures.each c.args.word c.args.new c.requires.word c.requires.new)

pub returns-clause-each : goal.returns-clause-each
returns-clause-each c =
    let k = c.args.masks.width in
    let lowest = c.constant.result in
    let low = shifted_low k c.args.rows lowest c.requires.some c.constant.ensures.stored c.constant.ensures.each in
    rw (mod-eq_of_lt low) (mixed_is k c.args.rows lowest c.requires.some c.constant.ensures.stored c.constant.ensures.each c.args.word c.args.new c.requires.word c.requires.new)
