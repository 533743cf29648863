use Rattle.std.proofs.Common.{arith}
use Rattle.bw_sql.proofs.LimitLemmas.{digit_fits}
use Rattle.bw_sql.proofs.limits.short_number.Goals as goal

pub overflow_mul-n : goal.overflow_mul-n
overflow_mul-n c =
    omega (arith, digit_fits c.loop-digit.n c.loop-digit.digit-index c.args.digits.now c.loop-digit.invariant c.loop-digit-test.true c.requires.digits c.requires.few)

pub overflow_add-n : goal.overflow_add-n
overflow_add-n c =
    omega (arith, c.from.ensures, digit_fits c.loop-digit.n c.loop-digit.digit-index c.args.digits.now c.loop-digit.invariant c.loop-digit-test.true c.requires.digits c.requires.few)
