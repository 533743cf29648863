use Rattle.std.proofs.Common.{arith, sym, ◌∙◌, ◌≡◌, true, get_or, ◌≤◌, ◌+◌, ◌*◌, ◌-◌}
use Rattle.std.specs.Char.{is_ascii_digit}
use Rattle.bw_csvload.specs.Sizes.{too_large}
use Rattle.bw_csvload.proofs.Digits.{last_digit}
use Rattle.bw_csvload.proofs.field.size_after.Goals as goal

pub returns-then-size-ge-FULL : goal.returns-then-size-ge-FULL
returns-then-size-ge-FULL c =
    let at = c.loop-i in
    let is : is_ascii_digit (get_or c.args.text.now at.i 0) ≡ true = sym c.is_ascii_digit.ensures.value ∙ c.if-not-is_ascii_digit.false in
    let large : too_large ≤ at.size * 10 + (get_or c.args.text.now at.i 0 - 48) = omega (arith, c.if-size-ge-FULL.true) in
    rw (c.then_some.ensures, c.all_digits.ensures) (last_digit c.args.text.now at.i at.size c.loop-i-test.true is large ∙ at.invariant.goes_on)
