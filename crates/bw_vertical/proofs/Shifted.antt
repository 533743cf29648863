-- Codes counted from another base: what each is then.
use Rattle.std.proofs.Common.{Bool, FitsSigned, List, ap, arith, false, get_or, nat_abs, of_z, pos, refl, subst, sym, to_z, true, w64, ℕ, ℤ, ◌%◌, ◌*◌, ◌+ℤ◌, ◌+◌, ◌-ℤ◌, ◌-◌, ◌/◌, ◌<◌, ◌==◌, ◌^◌, ◌∙◌, ◌≡◌, ◌≤◌}
use Rattle.std.specs.Prelude.{if◌then◌else◌}
use Rattle.std.proofs.Math.Pow.{pow_mono}
use Rattle.std.proofs.lemmas.Int.{ints, to_z-of_z}
use Rattle.std.proofs.lemmas.List.{get_or_past}
use Rattle.std.proofs.lemmas.Nat.Bits.{bit_at_cat_low}
use Rattle.bw_mask.specs.Masks.{MaskRows, bit_of, len, row_at}
use Rattle.bw_code.specs.Shifts.{IsWord, StaysBelow, shifted}
use Rattle.bw_code.proofs.Lists.{made_at}
use Rattle.bw_vertical.specs.Storage.{code_of, codes_of, is_set}
use Rattle.bw_vertical.proofs.Holding.{code_bit, code_is, code_lt}

-- the word between two bases
pub word_is : (from to : ℤ) (r : ℕ) → FitsSigned w64 from → FitsSigned w64 to → IsWord (to_z w64 (of_z w64 from) -ℤ to_z w64 (of_z w64 to)) r → IsWord (from -ℤ to) r
word_is from to r f t is code sum p q e = is code sum p q (rw (to_z-of_z w64 from f, to_z-of_z w64 to t) e)

-- the bits below 64 are those of the rest
low_bit : (n i : ℕ) → i < 64 → bit_of (n % 2 ^ 64) i ≡ bit_of n i
low_bit n i h =
    let whole : n ≡ n / 2 ^ 64 * 2 ^ 64 + n % 2 ^ 64 = omega arith in
    sym (ap (λ m. bit_of m i) whole ∙ ap (λ x. x == 1) (bit_at_cat_low (n / 2 ^ 64) 64 (n % 2 ^ 64) i h))

-- a code by its value and its bits
abbrev pub IsCode : ℕ → ℤ → ℕ → ℕ → Type 0
IsCode k value sum c = (c < 2 ^ k) × (pos c ≡ value) × ((m : ℕ) → m < 64 → bit_of sum m ≡ bit_of c m)

module _ (k : ℕ) (by : ℤ) (word : ℕ) (narrow : k ≤ 64) (is_word : IsWord by word) where
  pub new_code : (there : Bool) (code : ℕ) → code < 2 ^ 64 → StaysBelow (2 ^ k) (shifted by there code) → (c : ℕ) × IsCode k (shifted by there code) (code + (if there then word else 0)) c
  new_code true code small fits =
      let c = nat_abs (pos code +ℤ by) in
      let most : 2 ^ k ≤ 2 ^ 64 = pow_mono {i = k} {j = 64} narrow in
      let is : pos c ≡ pos code +ℤ by = omega (arith, ints, fits.0) in
      let low : c < 2 ^ k = omega (arith, ints, fits.0, fits.1) in
      (c, (low, is, λ m h. sym (low_bit (code + word) m h) ∙ ap (λ z. bit_of z m) (is_word code c small (omega (arith, low, most)) is)))
  new_code false code small fits = (code, (omega (arith, ints, fits.1), refl, λ m h. ap (λ z. bit_of z m) (omega arith)))

  word_code : (j : ℕ) (gs : List (List (List ℕ))) → code_of k gs j < 2 ^ 64
  word_code j gs = omega (arith, code_lt k gs j, pow_mono {i = k} {j = 64} narrow)

  module _ (n : ℕ) (old new : List (List (List ℕ))) (rows : MaskRows)
      (each : (i j : ℕ) → i < k → is_set k new i j ≡ bit_of (code_of k old j + (if row_at rows j then word else 0)) (k - 1 - i)) where
    pub code_shifted : (j : ℕ) → StaysBelow (2 ^ k) (shifted by (row_at rows j) (code_of k old j)) → pos (code_of k new j) ≡ shifted by (row_at rows j) (code_of k old j)
    code_shifted j fits =
        let c = new_code (row_at rows j) (code_of k old j) (word_code j old) fits in
        ap pos (code_is k j c.0 new c.1.0 (λ i h. each i j h ∙ c.1.2 (k - 1 - i) (omega (arith, narrow)))) ∙ c.1.1

    -- past the last row nothing changes
    pub rest_same : len rows ≡ n → (i j : ℕ) → i < k → n ≤ j → is_set k new i j ≡ is_set k old i j
    rest_same long i j h l =
        let past : row_at rows j ≡ false = get_or_past rows.rows j false (omega (arith, long, l)) in
        each i j h ∙ ap (λ b. bit_of (code_of k old j + (if b then word else 0)) (k - 1 - i)) past ∙ ap (λ z. bit_of z (k - 1 - i)) (omega arith) ∙ code_bit k i j old h

    pub codes_shifted : (j : ℕ) → j < n → StaysBelow (2 ^ k) (shifted by (row_at rows j) (get_or (codes_of k old n) j 0)) → pos (get_or (codes_of k new n) j 0) ≡ shifted by (row_at rows j) (get_or (codes_of k old n) j 0)
    codes_shifted j h fits =
        let before = made_at n (code_of k old) j 0 h in
        ap pos (made_at n (code_of k new) j 0 h) ∙ code_shifted j (subst (λ x. StaysBelow (2 ^ k) (shifted by (row_at rows j) x)) before fits) ∙ ap (shifted by (row_at rows j)) (sym before)
