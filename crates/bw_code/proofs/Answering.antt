-- The codes in a test have as many bits as the encoding's, and what a test answers.
use Rattle.std.proofs.Common.{◌≡◌, ℕ, ℤ, ◌^◌, ◌-◌, ◌<◌, ◌≤◌, ◌≤ℤ◌, false, cond, ◌&&◌, ◌≢◌, eqb, int_lt, int_le, leb, List, length, arith, Some}
use Rattle.std.specs.Int.{int_max, int_min}
use Rattle.std.specs.Ordering.{int_eq}
use Rattle.std.proofs.lemmas.Int.{ints, clamps}
use Rattle.std.proofs.lemmas.Nat.{pow_pos}
use Rattle.std.proofs.lemmas.Bool.Decides.{nat_tests}
use Rattle.bw_code.specs.Encodings.{IsEncoding, below, bits_of, clipped_range, code_of, distance, offset_test, rank_range, rank_test, range_of, test_above, test_below, test_of, top, upto, width}
use Rattle.bw_code.specs.Tests.{TestFits, int_compares, meets}
use Rattle.bw_code.specs.declared.offset.Offset.{Offset}
use Rattle.bw_code.specs.declared.encoding.Encoding.{Encoding}
use Rattle.bw_code.specs.declared.encoding.Encoding.TheVariants as by
use Rattle.bw_code.specs.declared.compare.CodeTest.{CodeTest}
use Rattle.bw_code.specs.declared.compare.CodeTest.TheVariants.{None, All, Cmp, Range}
use Rattle.bw_code.specs.declared.compare.CmpOp.{CmpOp}
use Rattle.bw_code.specs.declared.compare.CmpOp.TheVariants.{Eq, Ne, Lt, Le, Gt, Ge}
use Rattle.bw_code.proofs.Entries.{below-le-upto, upto-le-length}
use Rattle.bw_code.proofs.Meeting.{either, meets_range, meets_test}
use Rattle.bw_code.proofs.Widths.{bits_of_is}

differ : (a b : ℕ) → eqb a b ≡ false → a ≢ b
differ a b h = grind (arith, nat_tests)

above_fits : (bits : ℕ) (op : CmpOp) → TestFits bits (test_above op)
above_fits bits Eq = tt
above_fits bits Ne = tt
above_fits bits Lt = tt
above_fits bits Le = tt
above_fits bits Gt = tt
above_fits bits Ge = tt

below_fits : (bits : ℕ) (op : CmpOp) → TestFits bits (test_below op)
below_fits bits Eq = tt
below_fits bits Ne = tt
below_fits bits Lt = tt
below_fits bits Le = tt
below_fits bits Gt = tt
below_fits bits Ge = tt

offset_fits : (o : Offset) (op : CmpOp) (c : ℤ) → TestFits o.width (offset_test o op c)
offset_fits o op c =
    either (TestFits o.width) (int_lt c o.base) (test_above op) (cond (int_lt (top o) c) (test_below op) (Cmp op (distance c o.base)))
    (λ _. above_fits o.width op)
    (λ t. either (TestFits o.width) (int_lt (top o) c) (test_below op) (Cmp op (distance c o.base))
    (λ _. below_fits o.width op)
    (λ s. let a : o.base ≤ℤ c = grind (arith, ints, t) in let b : c ≤ℤ top o = grind (arith, ints, s) in omega (arith, ints, pow_pos o.width)))

clipped_fits : (o : Offset) (first last : ℤ) → o.base ≤ℤ first → last ≤ℤ top o → TestFits o.width (clipped_range o first last)
clipped_fits o first last a b =
    either (TestFits o.width) (int_lt last first) None (cond (int_eq first o.base && int_eq last (top o)) All (Range (distance first o.base) (distance last o.base)))
    (λ _. tt)
    (λ t.
    let ordered : first ≤ℤ last = grind (arith, ints, t) in
    either (TestFits o.width) (int_eq first o.base && int_eq last (top o)) All (Range (distance first o.base) (distance last o.base))
    (λ _. tt)
    (λ _. (omega (arith, ints, pow_pos o.width), omega (arith, ints, pow_pos o.width))))

rank_fits : (op : CmpOp) (r q count bits : ℕ) → r ≤ q → q ≤ count → count ≤ 2 ^ bits → TestFits bits (rank_test op r q count)
rank_fits Eq r q count bits a b d = either (TestFits bits) (eqb r q) None (Cmp Eq r) (λ _. tt) (λ h. omega (arith, differ r q h))
rank_fits Ne r q count bits a b d = either (TestFits bits) (eqb r q) All (Cmp Ne r) (λ _. tt) (λ h. omega (arith, differ r q h))
rank_fits Lt r q count bits a b d =
    either (TestFits bits) (eqb r 0) None (cond (eqb r count) All (Cmp Lt r)) (λ _. tt) (λ _. either (TestFits bits) (eqb r count) All (Cmp Lt r) (λ _. tt) (λ h. omega (arith, differ r count h)))
rank_fits Le r q count bits a b d =
    either (TestFits bits) (eqb q 0) None (cond (eqb q count) All (Cmp Lt q)) (λ _. tt) (λ _. either (TestFits bits) (eqb q count) All (Cmp Lt q) (λ _. tt) (λ h. omega (arith, differ q count h)))
rank_fits Gt r q count bits a b d =
    either (TestFits bits) (eqb q count) None (cond (eqb q 0) All (Cmp Ge q)) (λ _. tt) (λ h. either (TestFits bits) (eqb q 0) All (Cmp Ge q) (λ _. tt) (λ _. omega (arith, differ q count h)))
rank_fits Ge r q count bits a b d =
    either (TestFits bits) (eqb r count) None (cond (eqb r 0) All (Cmp Ge r)) (λ _. tt) (λ h. either (TestFits bits) (eqb r 0) All (Cmp Ge r) (λ _. tt) (λ _. omega (arith, differ r count h)))

rank_range_fits : (r q count bits : ℕ) → q ≤ count → count ≤ 2 ^ bits → TestFits bits (rank_range r q count)
rank_range_fits r q count bits a b =
    either (TestFits bits) (leb q r) None (cond (eqb r 0 && eqb q count) All (Range r (q - 1)))
    (λ _. tt)
    (λ t.
    let more : r < q = grind (arith, nat_tests, t) in
    either (TestFits bits) (eqb r 0 && eqb q count) All (Range r (q - 1)) (λ _. tt) (λ _. (omega arith, omega arith)))

-- a dictionary has at most 2^width entries
pub entries_few : (entries : List ℤ) → length entries < 2 ^ 64 → length entries ≤ 2 ^ bits_of (length entries - 1)
entries_few entries few = let w = bits_of_is (length entries - 1) (omega arith) in omega (arith, w.holds)

pub test_fits : (e : Encoding) → IsEncoding e → (op : CmpOp) (c : ℤ) → TestFits (width e) (test_of e op c)
test_fits (by.Offset o) ok op c = offset_fits o op c
test_fits (by.Dictionary entries) ok op c = rank_fits op (below entries c) (upto entries c) (length entries) (bits_of (length entries - 1)) (below-le-upto entries c) (upto-le-length entries c) (entries_few entries ok.few)

pub range_fits : (e : Encoding) → IsEncoding e → (low high : ℤ) → TestFits (width e) (range_of e low high)
range_fits (by.Offset o) ok low high = clipped_fits o (int_max low o.base) (int_min high (top o)) (omega (arith, ints, clamps)) (omega (arith, ints, clamps))
range_fits (by.Dictionary entries) ok low high = rank_range_fits (below entries low) (upto entries high) (length entries) (bits_of (length entries - 1)) (upto-le-length entries high) (entries_few entries ok.few)

-- what is answered where a test is asked for
pub record IsTest (e : Encoding) (op : CmpOp) (c : ℤ) (t : CodeTest) : Type 0 where
  pub is : t ≡ test_of e op c
  pub fits : TestFits (width e) t
  pub meets : (x : ℤ) (code : ℕ) → code_of e x ≡ Some code → meets t code ≡ int_compares op x c

pub tested : (e : Encoding) → IsEncoding e → (op : CmpOp) (c : ℤ) (t : CodeTest) → t ≡ test_of e op c → IsTest e op c t
tested e ok op c t is = record {
  is = is;
  fits = rw is (test_fits e ok op c);
  meets = λ x code h. rw is (meets_test e ok op c x code h);
}

pub record IsRange (e : Encoding) (low high : ℤ) (t : CodeTest) : Type 0 where
  pub is : t ≡ range_of e low high
  pub fits : TestFits (width e) t
  pub meets : (x : ℤ) (code : ℕ) → code_of e x ≡ Some code → meets t code ≡ (int_le low x && int_le x high)

pub ranged : (e : Encoding) → IsEncoding e → (low high : ℤ) (t : CodeTest) → t ≡ range_of e low high → IsRange e low high t
ranged e ok low high t is = record {
  is = is;
  fits = rw is (range_fits e ok low high);
  meets = λ x code h. rw is (meets_range e ok low high x code h);
}
