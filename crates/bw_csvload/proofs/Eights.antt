-- Eight bytes at a time: whether they are digits, and the number that they write.
use Rattle.std.proofs.Common.{Bool, Fits, List, [], ap, ap₂, arith, cond, eq-eqb, eqb, false, inl, inr, length, ltb, map, ne_eqb, not, refl, replicate, sym, true, w8, w32, ℕ, ◌%◌, ◌&&◌, ◌*◌, ◌+◌, ◌-◌, ◌<◌, ◌^◌, ◌≡◌, ◌∙◌, ◌∷◌}
use Rattle.std.proofs.lemmas.Bool.{and_parts, cases_lt}
use Rattle.std.proofs.lemmas.Bool.Decides.{nat_tests}
use Rattle.std.proofs.lemmas.Int.Digits.{digits_value_is}
use Rattle.std.proofs.lemmas.List.{length-map}
use Rattle.std.proofs.lemmas.Simd.{map-map, mask_l-mod, tops_compared, zip2_splat, zip2_splat_left}
use Rattle.std.proofs.lemmas.Str.{digit_value_digit}
use Rattle.std.specs.Char.{digit_value, is_ascii_digit}
use Rattle.std.specs.Int.{IsInRange}
use Rattle.std.specs.Int.Digits.{number_from_digits, AllBelowBase}
use Rattle.std.specs.List.{list_all}
use Rattle.std.specs.Str.Parse.{digits_value}
use lib.Lanes.{Each1, Each2, Steps, fold_l, mask_l, top, zip2}

-- a byte by its distance from '0', round the end of a byte
abbrev lane : ℕ → ℕ
lane x = (x + 208) % 256

-- the digits alone are at most 9 away
other_lane : (x : ℕ) → x < 256 → ltb 9 (lane x) ≡ not (is_ascii_digit x)
other_lane x h =
    elim (cases_lt x 48) [
      | inl p ↦ let here : (x + 208) % 256 ≡ x + 208 = omega arith in rw here (grind (arith, nat_tests))
      | inr p ↦ let here : (x + 208) % 256 ≡ x - 48 = omega arith in rw here (grind (arith, nat_tests))
    ]

twice : (m : ℕ) → eqb (0 + 2 * m) 0 ≡ eqb m 0
twice m = grind (arith, nat_tests)

one_more : (b : Bool) (m : ℕ) (rest : Bool) → eqb m 0 ≡ rest → eqb (cond (not b) 1 0 + 2 * m) 0 ≡ (b && rest)
one_more true m rest e = twice m ∙ e
one_more false m rest e = ne_eqb (1 + 2 * m) 0 (λ (z : 1 + 2 * m ≡ 0). omega arith)

no_bit : (bytes : List ℕ) → Each1 (Fits w8) bytes → eqb (mask_l (map (λ x. ltb 9 (lane x)) bytes)) 0 ≡ list_all is_ascii_digit bytes
no_bit [] fit = refl
no_bit (x ∷ bytes) fit =
    let rest = mask_l (map (λ y. ltb 9 (lane y)) bytes) in
    ap (λ b. eqb (cond b 1 0 + 2 * rest) 0) (other_lane x fit.0.fits) ∙ one_more (is_ascii_digit x) rest (list_all is_ascii_digit bytes) (no_bit bytes fit.1)

-- at digits, the distance from '0' is the value
digit_lanes : (bytes : List ℕ) → list_all is_ascii_digit bytes ≡ true → (map lane bytes ≡ map digit_value bytes) × AllBelowBase 10 (map lane bytes)
digit_lanes [] all = (refl, tt)
digit_lanes (x ∷ bytes) all =
    let parts = and_parts (is_ascii_digit x) (list_all is_ascii_digit bytes) all in
    let value = digit_lane x parts.0 in
    let rest = digit_lanes bytes parts.1 in
    (ap₂ (λ d ds. d ∷ ds) value.0 rest.0, (value.1, rest.1))
  where
    digit_lane : (x : ℕ) → is_ascii_digit x ≡ true → (lane x ≡ digit_value x) × (lane x < 10)
    digit_lane x is = let inside : IsInRange 48 57 x = grind (arith, nat_tests, is) in (omega (arith, digit_value_digit x inside), omega arith)

-- the lanes, and the mask of those that hold no digit, as the code makes them
abbrev lanes : List ℕ → List ℕ
lanes bytes = zip2 (λ a b. (a + (2 ^ 8 - b)) % 2 ^ 8) bytes (replicate 8 48)

abbrev others : List ℕ → ℕ
others bytes = mask_l (map (top 7) (zip2 (λ a b. cond (ltb a b) (2 ^ 8 - 1) 0) (replicate 8 9) (lanes bytes))) % 2 ^ 64

module _ (bytes : List ℕ) (long : length bytes ≡ 8) (fit : Each1 (Fits w8) bytes) where
  lanes_are : lanes bytes ≡ map lane bytes
  lanes_are = zip2_splat (λ a b. (a + (2 ^ 8 - b)) % 2 ^ 8) bytes 8 48 long

  no_others : eqb (others bytes) 0 ≡ list_all is_ascii_digit bytes
  no_others =
      let marks : map (top 7) (zip2 (λ a b. cond (ltb a b) (2 ^ 8 - 1) 0) (replicate 8 9) (lanes bytes)) ≡ map (λ x. ltb 9 (lane x)) bytes
      = tops_compared w8 ltb (replicate 8 9) (lanes bytes)
      ∙ ap (zip2 ltb (replicate 8 9)) lanes_are
      ∙ zip2_splat_left ltb 9 8 (map lane bytes) (length-map bytes lane ∙ long)
      ∙ map-map (ltb 9) lane bytes in
      ap (λ ms. eqb (mask_l ms % 2 ^ 64) 0) marks
      ∙ ap (λ m. eqb m 0) (mask_l-mod (map (λ x. ltb 9 (lane x)) bytes) 64 (omega (arith, length-map bytes (λ x. ltb 9 (lane x)), long)))
      ∙ no_bit bytes fit

  pub some_other : (others bytes ≡ 0 → ⊥) → list_all is_ascii_digit bytes ≡ false
  some_other some = sym no_others ∙ ne_eqb (others bytes) 0 some

  module _ (none : others bytes ≡ 0) where
    pub all_digits : list_all is_ascii_digit bytes ≡ true
    all_digits = sym no_others ∙ eq-eqb (others bytes) 0 none

    pub lanes_below : AllBelowBase 10 (lanes bytes)
    lanes_below = rw lanes_are (digit_lanes bytes all_digits).1

    pub number_from_lanes : number_from_digits 10 (lanes bytes) ≡ digits_value 10 bytes
    number_from_lanes = ap (number_from_digits 10) (lanes_are ∙ (digit_lanes bytes all_digits).0) ∙ sym (digits_value_is 10 bytes)

abbrev places : List ℕ
places = 10000000 ∷ 1000000 ∷ 100000 ∷ 10000 ∷ 1000 ∷ 100 ∷ 10 ∷ 1 ∷ []

-- the lanes of digits, widened, each times its place
abbrev products : List ℕ → List ℕ
products digits = zip2 (λ a b. a * b) (map (λ d. d) digits) places

-- nothing is too large for 32 bits, and together they are the number
pub record IsWeighed (digits : List ℕ) : Type 0 where
  pub products_fit : Each2 (λ a b. Fits w32 (a * b)) (map (λ d. d) digits) places
  pub sums_fit : Steps (λ s x. Fits w32 (s + x)) (λ s x. s + x) 0 (products digits)
  pub number : fold_l (λ s x. s + x) 0 (products digits) ≡ number_from_digits 10 digits
  pub small : fold_l (λ s x. s + x) 0 (products digits) < 10 ^ 8

pub weighed : (digits : List ℕ) → length digits ≡ 8 → AllBelowBase 10 digits → IsWeighed digits
weighed (a ∷ b ∷ c ∷ d ∷ e ∷ f ∷ g ∷ h ∷ []) long below = omega arith
weighed _ long below = absurd (omega arith)
