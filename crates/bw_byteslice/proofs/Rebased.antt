-- Codes counted from another base: a number that is added to shifted codes modulo 256^m is added to the codes modulo 2^k.
use Rattle.std.proofs.Common.{Bool, FitsSigned, List, [], ap, arith, false, get_or, if◌then◌else◌, length, of_z, pos, pow_pos, refl, sym, to_z, true, w64, ℕ, ℤ, ◌%◌, ◌*◌, ◌+◌, ◌-ℤ◌, ◌-◌, ◌/◌, ◌<◌, ◌^◌, ◌∙◌, ◌≡◌, ◌≤◌}
use Rattle.std.proofs.Math.Nat.{add-mod-mod, mod-eq_of_lt, mul-div_cancel, mul-mod_left}
use Rattle.std.proofs.Math.Pow.{mod-mod-pow, pow_mono}
use Rattle.std.proofs.lemmas.Int.{to_z-of_z}
use Rattle.std.proofs.lemmas.List.{get_or_past}
use Rattle.std.proofs.lemmas.Nat.{mod-pow-add}
use Rattle.bw_mask.specs.Masks.{MaskRows, len, row_at}
use Rattle.bw_code.specs.Lists.{made}
use Rattle.bw_code.specs.Shifts.{IsWord, StaysBelow, moved, shifted}
use Rattle.bw_code.proofs.Lists.{made_at}
use Rattle.bw_code.proofs.Moving.{moved_is}
use Rattle.bw_byteslice.specs.Slices.{shift_of, slices_of}
use Rattle.bw_byteslice.specs.Storing.{AreSlices, byte_of, code_of, number_at}
use Rattle.bw_byteslice.proofs.Keeping.{code_fits, code_past, number_is}
use Rattle.bw_byteslice.proofs.Raised.{pow_bytes}

-- the number that is added for two bases, of which the words hold the bits
pub word_of_bases : (from to : ℤ) (r : ℕ) → FitsSigned w64 from → FitsSigned w64 to → IsWord (to_z w64 (of_z w64 from) -ℤ to_z w64 (of_z w64 to)) r → IsWord (from -ℤ to) r
word_of_bases from to r f t is code sum p q e = is code sum p q (rw (to_z-of_z w64 from f, to_z-of_z w64 to t) e)

mod_wider : (x a b : ℕ) → a ≤ b → x % 2 ^ b % 2 ^ a ≡ x % 2 ^ a
mod_wider x a b h = let more : b ≡ b - a + a = omega (arith, h) in ap (λ e. x % 2 ^ e % 2 ^ a) more ∙ mod-mod-pow x (b - a) a

mod_scaled : (x k s : ℕ) → x * 2 ^ s % 2 ^ (k + s) ≡ x % 2 ^ k * 2 ^ s
mod_scaled x k s =
    mod-pow-add (x * 2 ^ s) k s ∙ ap (λ y. y % 2 ^ k * 2 ^ s + x * 2 ^ s % 2 ^ s) (mul-div_cancel x (pow_pos s)) ∙ omega (arith, mul-mod_left x (2 ^ s))

-- shifted codes that are added are the shifted sum
sum_is : (k code added : ℕ) → k ≤ 64 → (code * 2 ^ shift_of k + added * 2 ^ shift_of k % 2 ^ 64) % 256 ^ slices_of k ≡ (code + added) % 2 ^ k * 2 ^ shift_of k
sum_is k code added narrow =
    let s = shift_of k in
    let whole : 8 * slices_of k ≡ k + s = omega arith in
    let x = code * 2 ^ s in
    let y = added * 2 ^ s in
    let both : x + y ≡ (code + added) * 2 ^ s = omega arith in
    ap (λ p. (x + y % 2 ^ 64) % p) (pow_bytes (slices_of k) ∙ ap (λ e. 2 ^ e) whole)
    ∙ sym (add-mod-mod x (y % 2 ^ 64) (2 ^ (k + s)))
    ∙ ap (λ z. (x + z) % 2 ^ (k + s)) (mod_wider y (k + s) 64 (omega (arith, narrow)))
    ∙ add-mod-mod x y (2 ^ (k + s))
    ∙ ap (λ z. z % 2 ^ (k + s)) both
    ∙ mod_scaled (code + added) k s

added_is : (there : Bool) (word s : ℕ) → (if there then word * 2 ^ s % 2 ^ 64 else 0) ≡ (if there then word else 0) * 2 ^ s % 2 ^ 64
added_is true word s = refl
added_is false word s = omega arith

-- a code, to which a number is added where it moves, modulo 2^k
abbrev pub sum_of : ℕ → ℕ → List (List ℕ) → Bool → ℕ → ℕ
sum_of k word slices there j = (code_of k slices j + (if there then word else 0)) % 2 ^ k

-- one row, whose number becomes x
module _ (k n word : ℕ) (slices : List (List ℕ)) (stored : AreSlices k n slices) where
  pub number_summed : (there : Bool) (j x : ℕ) → x ≡ (number_at (slices_of k) slices j + (if there then word * 2 ^ shift_of k % 2 ^ 64 else 0)) % 256 ^ slices_of k → x ≡ sum_of k word slices there j * 2 ^ shift_of k
  number_summed there j x is =
      let code = code_of k slices j in
      is ∙ ap (λ y. (y + (if there then word * 2 ^ shift_of k % 2 ^ 64 else 0)) % 256 ^ slices_of k) (number_is k n slices stored j)
      ∙ ap (λ y. (code * 2 ^ shift_of k + y) % 256 ^ slices_of k) (added_is there word (shift_of k))
      ∙ sum_is k code (if there then word else 0) stored.narrow

  pub sum_shifted : (by : ℤ) → IsWord by word → (there : Bool) (j x : ℕ) → x ≡ sum_of k word slices there j * 2 ^ shift_of k → StaysBelow (2 ^ k) (shifted by there (code_of k slices j)) → pos (x / 2 ^ shift_of k) ≡ shifted by there (code_of k slices j)
  sum_shifted by word_is there j x x_is fits =
      let code = code_of k slices j in
      let sum = sum_of k word slices there j in
      let most : 2 ^ k ≤ 2 ^ 64 = pow_mono {i = k} {j = 64} stored.narrow in
      let is = moved_is by word k word_is stored.narrow there code (omega (arith, code_fits k n slices stored j, most)) fits in
      let same : sum ≡ moved word there code = sym (mod_wider (code + (if there then word else 0)) k 64 stored.narrow) ∙ mod-eq_of_lt is.0 in
      let code_is : x / 2 ^ shift_of k ≡ sum = ap (λ y. y / 2 ^ shift_of k) x_is ∙ mul-div_cancel sum (pow_pos (shift_of k)) in
      ap pos (code_is ∙ same) ∙ is.1

module _ (k n word : ℕ) (old new : List (List ℕ)) (rows : MaskRows) (stored : AreSlices k n old)
    (each : (j : ℕ) → number_at (slices_of k) new j ≡ (number_at (slices_of k) old j + (if row_at rows j then word * 2 ^ shift_of k % 2 ^ 64 else 0)) % 256 ^ slices_of k) where
  sum : ℕ → ℕ
  sum j = sum_of k word old (row_at rows j) j

  number_moved : (j : ℕ) → number_at (slices_of k) new j ≡ sum j * 2 ^ shift_of k
  unfolding sum
  number_moved j = number_summed k n word old stored (row_at rows j) j (number_at (slices_of k) new j) (each j)

  module _ (by : ℤ) (word_is : IsWord by word) where
    pub code_shifted : (j : ℕ) → StaysBelow (2 ^ k) (shifted by (row_at rows j) (code_of k old j)) → pos (code_of k new j) ≡ shifted by (row_at rows j) (code_of k old j)
    unfolding sum
    code_shifted j fits = sum_shifted k n word old stored by word_is (row_at rows j) j (number_at (slices_of k) new j) (number_moved j) fits

    pub codes_shifted : (j : ℕ) → j < n → StaysBelow (2 ^ k) (shifted by (row_at rows j) (get_or (made n (code_of k old)) j 0)) → pos (get_or (made n (code_of k new)) j 0) ≡ shifted by (row_at rows j) (get_or (made n (code_of k old)) j 0)
    codes_shifted j h fits = rw (made_at n (code_of k new) j 0 h, made_at n (code_of k old) j 0 h) (code_shifted j (rw (made_at n (code_of k old) j 0 h) at fits))

  -- past the last row nothing is added
  number_past : len rows ≡ n → (j : ℕ) → n ≤ j → number_at (slices_of k) new j ≡ 0
  unfolding sum
  number_past long j h =
      let past : row_at rows j ≡ false = get_or_past rows.rows j false (omega (arith, long, h)) in
      let none : sum j ≡ 0 = rw (past, code_past k n old stored j h) (mod-eq_of_lt (pow_pos k)) in
      number_moved j ∙ ap (λ x. x * 2 ^ shift_of k) none ∙ omega arith

  pub slices_moved : len rows ≡ n → length new ≡ length old → ((i : ℕ) → length (get_or new i []) ≡ length (get_or old i [])) → ((i j : ℕ) → byte_of new j i < 256) → AreSlices k n new
  slices_moved long count same bytes = record {
    some = stored.some;
    narrow = stored.narrow;
    few = stored.few;
    count = count ∙ stored.count;
    long = λ i h. same i ∙ stored.long i h;
    bytes = bytes;
    spare = λ j. ap (λ x. x % 2 ^ shift_of k) (number_moved j) ∙ mul-mod_left (sum j) (2 ^ shift_of k);
    clean = number_past long;
  }
