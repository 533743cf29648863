-- Codes shifted up to whole bytes.
use Rattle.std.proofs.Common.{Bool, List, ap, arith, eqb, inl, inr, leb, ltb, not, refl, subst, suc, sym, zero, ℕ, ◌%◌, ◌*◌, ◌+◌, ◌<◌, ◌^◌, ◌≡◌, ◌≤◌, ◌∙◌, pow_pos}
use Rattle.std.proofs.Math.Nat.{div-add-mod, mod-eq_of_lt, mul-le-mul_right, mul-lt-mul_of_pos_right, pow-suc}
use Rattle.std.proofs.Math.Pow.{pow_mono}
use Rattle.std.proofs.lemmas.Bool.{cases_lt, cases_order, eq-eqb, le-ltb, lt-ltb, ne_eqb}
use Rattle.std.proofs.lemmas.Bool.Decides.{nat_tests}
use Rattle.std.proofs.lemmas.Nat.{pow-add}
use Rattle.bw_code.specs.Tests.{code_compares, meets}
use Rattle.bw_code.specs.Units.{agreement, by_slices, cost_of, scan_units, segment_units, side_units}
use Rattle.bw_code.proofs.UnitLemmas.{cost_same, segment_same, sum_same}
use Rattle.bw_code.specs.declared.compare.CmpOp.{CmpOp}
use Rattle.bw_code.specs.declared.compare.CmpOp.TheVariants.{Eq, Ne, Lt, Le, Gt, Ge}
use Rattle.bw_code.specs.declared.compare.CodeTest.{CodeTest}
use Rattle.bw_code.specs.declared.compare.CodeTest.TheVariants.{None, All, Cmp, Range}
use Rattle.bw_byteslice.specs.Slices.{AreStored, by_bytes, code_in, number_in, raised, shift_of, slices_of}

pub pow_bytes : (m : ℕ) → 256 ^ m ≡ 2 ^ (8 * m)
pow_bytes zero = refl
pow_bytes (suc m) =
    let more : 8 * suc m ≡ 8 * m + 8 = omega arith in
    pow-suc 256 m ∙ ap (λ p. p * 256) (pow_bytes m) ∙ sym (ap (λ e. 2 ^ e) more ∙ pow-add 2 (8 * m) 8)

-- a shifted code has m bytes
pub raised_fits : (k c : ℕ) → c < 2 ^ k → c * 2 ^ shift_of k < 256 ^ slices_of k
raised_fits k c h =
    let whole : 8 * slices_of k ≡ k + shift_of k = omega arith in
    let bound : 256 ^ slices_of k ≡ 2 ^ k * 2 ^ shift_of k = pow_bytes (slices_of k) ∙ ap (λ e. 2 ^ e) whole ∙ pow-add 2 k (shift_of k) in
    subst (λ p. c * 2 ^ shift_of k < p) (sym bound) (mul-lt-mul_of_pos_right h (pow_pos (shift_of k)))

-- the order of shifted codes is that of the codes
module _ (d : ℕ) (pos : 0 < d) (x c : ℕ) where
  eq_scaled : eqb (x * d) (c * d) ≡ eqb x c
  eq_scaled =
      elim (cases_order x c) [
        | inl e ↦ rw (e, eq-eqb c c refl) (eq-eqb (c * d) (c * d) refl)
        | inr (inl l) ↦ let far = mul-lt-mul_of_pos_right {m = x} {n = c} l pos in rw (ne_eqb x c (λ e. omega arith)) (ne_eqb _ _ (λ e. omega (arith, far)))
        | inr (inr l) ↦ let far = mul-lt-mul_of_pos_right {m = c} {n = x} l pos in rw (ne_eqb x c (λ e. omega arith)) (ne_eqb _ _ (λ e. omega (arith, far)))
      ]

  lt_scaled : ltb (x * d) (c * d) ≡ ltb x c
  lt_scaled =
      elim (cases_lt x c) [
        | inl l ↦ rw (lt-ltb x c l) (lt-ltb _ _ (mul-lt-mul_of_pos_right l pos))
        | inr l ↦ rw (le-ltb x c l) (le-ltb _ _ (mul-le-mul_right d l))
      ]

le_scaled : (d : ℕ) → 0 < d → (x c : ℕ) → leb (x * d) (c * d) ≡ leb x c
le_scaled d pos x c = other (x * d) (c * d) ∙ ap not (lt_scaled d pos c x) ∙ sym (other x c)
  where
    other : (a b : ℕ) → leb a b ≡ not (ltb b a)
    other a b = grind (arith, nat_tests)

pub compares_raised : (d : ℕ) → 0 < d → (op : CmpOp) (x c : ℕ) → code_compares op (x * d) (c * d) ≡ code_compares op x c
compares_raised d pos Eq x c = eq_scaled d pos x c
compares_raised d pos Ne x c = ap not (eq_scaled d pos x c)
compares_raised d pos Lt x c = lt_scaled d pos x c
compares_raised d pos Le x c = le_scaled d pos x c
compares_raised d pos Gt x c = lt_scaled d pos c x
compares_raised d pos Ge x c = le_scaled d pos c x

pub meets_raised : (s : ℕ) (test : CodeTest) (x : ℕ) → meets (raised s test) (x * 2 ^ s) ≡ meets test x
meets_raised s None x = refl
meets_raised s All x = refl
meets_raised s (Cmp op c) x = compares_raised (2 ^ s) (pow_pos s) op x c
meets_raised s (Range lo hi) x = rw (le_scaled (2 ^ s) (pow_pos s) lo x, le_scaled (2 ^ s) (pow_pos s) x hi) refl

-- the numbers stored are the codes shifted up
module _ (k : ℕ) (units : List (List ℕ)) (stored : AreStored k units) where
  pub number_is : (j : ℕ) → number_in (slices_of k) units j ≡ code_in k units j * 2 ^ shift_of k
  number_is j = omega (arith, div-add-mod (number_in (slices_of k) units j) (2 ^ shift_of k), stored.spare j)

  units_same : (test raised_test : CodeTest) (needed : ℕ → Bool) (segments : ℕ)
      → ((code : ℕ → ℕ) → scan_units (by_bytes (slices_of k)) raised_test needed (λ j. code j * 2 ^ shift_of k) segments ≡ scan_units (by_slices k (slices_of k)) test needed code segments)
      → scan_units (by_bytes (slices_of k)) raised_test needed (number_in (slices_of k) units) segments ≡ scan_units (by_slices k (slices_of k)) test needed (code_in k units) segments
  units_same test raised_test needed segments each =
      sum_same segments
      (λ q. segment_units (by_bytes (slices_of k)) raised_test (λ j. needed (32 * q + j)) (λ j. number_in (slices_of k) units (32 * q + j)))
      (λ q. segment_units (by_bytes (slices_of k)) raised_test (λ j. needed (32 * q + j)) (λ j. code_in k units (32 * q + j) * 2 ^ shift_of k))
      (λ q h. segment_same (by_bytes (slices_of k)) raised_test _ _ _ _ (λ j l. refl) (λ j l. number_is (32 * q + j)))
      ∙ each (code_in k units)

  pub units_raised : (test : CodeTest) (needed : ℕ → Bool) (segments : ℕ)
      → scan_units (by_bytes (slices_of k)) (raised (shift_of k) test) needed (number_in (slices_of k) units) segments ≡ scan_units (by_slices k (slices_of k)) test needed (code_in k units) segments
  units_raised None needed segments = units_same None None needed segments (λ code. refl)
  units_raised All needed segments = units_same All All needed segments (λ code. refl)
  units_raised (Cmp op c) needed segments = units_same (Cmp op c) (Cmp op (c * 2 ^ shift_of k)) needed segments (λ code. refl)
  units_raised (Range lo hi) needed segments = units_same (Range lo hi) (Range (lo * 2 ^ shift_of k) (hi * 2 ^ shift_of k)) needed segments (λ code. refl)

-- two columns of codes shifted up, side by side
module _ (k : ℕ) (units others : List (List ℕ)) (stored : AreStored k units) (also_stored : AreStored k others) where
  pub numbers_compare : (op : CmpOp) (j : ℕ) → code_compares op (number_in (slices_of k) units j) (number_in (slices_of k) others j) ≡ code_compares op (code_in k units j) (code_in k others j)
  numbers_compare op j =
      ap (λ x. code_compares op x (number_in (slices_of k) others j)) (number_is k units stored j)
      ∙ ap (code_compares op (code_in k units j * 2 ^ shift_of k)) (number_is k others also_stored j)
      ∙ compares_raised (2 ^ shift_of k) (pow_pos (shift_of k)) op (code_in k units j) (code_in k others j)

  pub sides_raised : (needed : ℕ → Bool) (segments : ℕ)
      → side_units (by_bytes (slices_of k)) needed (number_in (slices_of k) units) (number_in (slices_of k) others) segments
      ≡ side_units (by_slices k (slices_of k)) needed (code_in k units) (code_in k others) segments
  sides_raised needed segments =
      sum_same segments
      (λ q. cost_of (by_bytes (slices_of k)) (λ j. needed (32 * q + j)) (λ j. agreement 256 (slices_of k) (number_in (slices_of k) units (32 * q + j)) (number_in (slices_of k) others (32 * q + j))))
      (λ q. cost_of (by_bytes (slices_of k)) (λ j. needed (32 * q + j)) (λ j. agreement 256 (slices_of k) (code_in k units (32 * q + j) * 2 ^ shift_of k) (code_in k others (32 * q + j) * 2 ^ shift_of k)))
      (λ q h. cost_same (by_bytes (slices_of k)) _ _ _ _ (λ j l. refl) (λ j l.
      ap (λ x. agreement 256 (slices_of k) x (number_in (slices_of k) others (32 * q + j))) (number_is k units stored (32 * q + j))
      ∙ ap (agreement 256 (slices_of k) (code_in k units (32 * q + j) * 2 ^ shift_of k)) (number_is k others also_stored (32 * q + j))))

-- what the shift of a number of so many bits leaves
pub raised_is : (bits k s c : ℕ) → 8 * slices_of k ≤ bits → s ≡ shift_of k → c < 2 ^ k → c * 2 ^ s % 2 ^ bits ≡ c * 2 ^ shift_of k
raised_is bits k s c narrow is h =
    let fits = raised_fits k c h in
    let top : 2 ^ (8 * slices_of k) ≤ 2 ^ bits = pow_mono {i = 8 * slices_of k} {j = bits} narrow in
    ap (λ n. c * 2 ^ n % 2 ^ bits) is ∙ mod-eq_of_lt (omega (arith, fits, top, pow_bytes (slices_of k)))
