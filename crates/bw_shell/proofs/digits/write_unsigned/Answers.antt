use Rattle.std.proofs.Common.{◌≡◌, ◌+◌, ◌-◌, arith, append_assoc}
use Rattle.itoa.proofs.Decimal.{decimal_four, length_four}
use Rattle.bw_shell.proofs.digits.write_unsigned.Goals as goal

pub overflow_sub-at : goal.overflow_sub-at
overflow_sub-at c = omega (arith, c.loop-left.invariant.room, length_four c.loop-left.left c.loop-left-test.true c.loop-left.auto.left-fits.fits)

pub write_pair-requires-clause-inside : goal.write_pair-requires-clause-inside
write_pair-requires-clause-inside c =
    omega (arith, c.requires.inside, c.loop-left.auto.bytes, c.loop-left.invariant.inside, c.loop-left.invariant.room, length_four c.loop-left.left c.loop-left-test.true c.loop-left.auto.left-fits.fits)

pub overflow_sub-at-in-loop-left : goal.overflow_sub-at-in-loop-left
overflow_sub-at-in-loop-left c = omega (arith, c.loop-left.invariant.room, length_four c.loop-left.left c.loop-left-test.true c.loop-left.auto.left-fits.fits)

pub overflow_sub-at-in-loop-left-2 : goal.overflow_sub-at-in-loop-left-2
overflow_sub-at-in-loop-left-2 c = omega (arith, c.loop-left.invariant.room, length_four c.loop-left.left c.loop-left-test.true c.loop-left.auto.left-fits.fits)

pub loop-left-preserved : goal.loop-left-preserved
loop-left-preserved c =
    let l = c.loop-left in
    let long = length_four l.left c.loop-left-test.true l.auto.left-fits.fits in
    let a : l.at - 4 + 2 ≡ l.at - 2 = omega (arith, long, l.invariant.room) in
    let b : l.at - 2 + 2 ≡ l.at = omega (arith, long, l.invariant.room) in
    record {
      room = omega (arith, long, l.invariant.room);
      inside = omega (arith, l.invariant.inside);
      start = omega (arith, long, l.invariant.room, l.invariant.start);
      text = rw (c.write_pair-in-loop-left.ensures, a, c.write_pair.ensures, b)
          (rw (decimal_four l.left c.loop-left-test.true l.auto.left-fits.fits, append_assoc) at l.invariant.text);
    }
