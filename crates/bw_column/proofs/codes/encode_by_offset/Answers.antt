use Rattle.std.proofs.Common.{FitsSigned, None, arith, get_or, of_z, rules, to_z, unwrap_or, w64, refl, ◌%◌, ◌+◌, ◌-◌, ◌^◌, ◌≡◌, ◌≤ℤ◌}
use Rattle.std.proofs.lemmas.Bool.{OnTrue_from}
use Rattle.std.proofs.lemmas.Int.{to_z-of_z}
use Rattle.bw_code.specs.Encodings.{distance}
use Rattle.bw_column.proofs.Flat.{codes_more, codes_by, decided, still_held, still_missed, same_passes, unwrapped}
use Rattle.bw_column.proofs.codes.encode_by_offset.Goals as goal

pub loop-i-preserved : goal.loop-i-preserved
loop-i-preserved c =
    let o = c.args.offset in
    let values = c.args.values.now in
    let i = c.loop-i.i in
    let x = unwrap_or (get_or values i None) o.base in
    let fits_base : FitsSigned w64 o.base = search rules in
    let fits : FitsSigned w64 c.unwrap_or-value.result = search rules in
    let b : to_z w64 (of_z w64 o.base) ≡ o.base = to_z-of_z w64 o.base fits_base in
    let is : c.unwrap_or-value.result ≡ x = rw b at c.unwrap_or-value.ensures in
    let v : to_z w64 (of_z w64 c.unwrap_or-value.result) ≡ c.unwrap_or-value.result = to_z-of_z w64 c.unwrap_or-value.result fits in
    let m : c.cast_unsigned.result ≡ of_z w64 x = rw (v, is) at c.cast_unsigned.ensures in
    let n : c.cast_unsigned-in-loop-i.result ≡ of_z w64 o.base = rw b at c.cast_unsigned-in-loop-i.ensures in
    let d = (c.cast_unsigned.result + (2 ^ 64 - c.cast_unsigned-in-loop-i.result)) % 2 ^ 64 in
    let near : o.base ≤ℤ x → d ≡ distance x o.base = unwrapped o.base x d fits_base (rw is at fits) (rw (m, n) refl) in
    rw (v, b, c.greatest_code-greatest.ensures, is, same_passes o x d near) record {
      held = still_held o values i c.loop-i.all c.loop-i.invariant.held;
      missed = still_missed o values i c.loop-i.all c.loop-i-test.true c.loop-i.invariant.missed;
      codes = codes_more o values c.loop-i.codes i d (omega arith) c.loop-i.invariant.codes near;
    }

pub returns-clause-all : goal.returns-clause-all
returns-clause-all c = decided c.args.offset c.args.values.now c.loop-i.all (λ h k l. c.loop-i.invariant.held h k (omega arith)) c.loop-i.invariant.missed

pub returns-clause-codes : goal.returns-clause-codes
returns-clause-codes c = OnTrue_from c.loop-i.all _ (λ h. codes_by c.args.offset c.args.values.now c.loop-i.codes (omega arith) (λ k l. c.loop-i.invariant.held h k (omega arith)) (λ k l. c.loop-i.invariant.codes k (omega arith) (c.loop-i.invariant.held h k (omega arith))))
