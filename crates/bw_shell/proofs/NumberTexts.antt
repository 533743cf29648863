-- The text of a number whose first digit is written in a pair, and its sign.
use Rattle.std.proofs.Common.{ap, arith, drop, eq-zero-or-pos, inl, inr, length, set, sym, unsigned_abs, Bool, false, true, List, ◌++◌, ◌+◌, ◌-◌, ◌/◌, ◌%◌, ◌^◌, ◌∙◌, ◌<◌, ◌∷◌, ◌≡◌, ◌≤◌, ℕ, ℤ, pos, negsuc}
use Rattle.std.proofs.lemmas.Bool.{le-leb, lt-leb}
use Rattle.std.proofs.lemmas.Fmt.{decimal_digit, length-decimal-le}
use Rattle.std.proofs.lemmas.List.{drop-drop, drop-set, drop-set-lt}
use Rattle.std.specs.Fmt.{decimal, signed_decimal}
use Rattle.itoa.proofs.Decimal.{decimal_two, length_one, length_two}
use lib.Dec.{leb, leb-suc-zero}
use lib.Signed.{lt_z}
use mir.Val.{bool_byte}

-- how many digits a number below 100 has
pub first_length : (n : ℕ) → n < 100 → length (decimal n) ≡ 1 + bool_byte (leb 10 n)
first_length n small =
    elim (eq-zero-or-pos (10 - n)) [
      | inl two ↦ length_two n (omega arith) small ∙ ap (λ b. 1 + bool_byte b) (sym (le-leb 10 n (omega arith)))
      | inr one ↦ length_one n (omega arith) ∙ ap (λ b. 1 + bool_byte b) (sym (lt-leb 10 n (omega arith)))
    ]

-- the text of a number below 100 that is written as a pair, from its first digit on
pub first_text : (n end : ℕ) (new after : List ℕ) → n < 100 → 2 ≤ end → drop (end - 2) new ≡ (48 + n / 10) ∷ (48 + n % 10) ∷ after
    → drop (end - 1 - bool_byte (leb 10 n)) new ≡ decimal n ++ after
first_text n end new after small room pair =
    elim (eq-zero-or-pos (10 - n)) [
      | inl two ↦
          let at : end - 1 - bool_byte (leb 10 n) ≡ end - 2 = ap (λ b. end - 1 - bool_byte b) (le-leb 10 n (omega arith)) ∙ omega arith in
          ap (λ k. drop k new) at ∙ pair ∙ ap (λ l. l ++ after) (sym (decimal_two n (omega arith) small))
      | inr one ↦
          let at : end - 1 - bool_byte (leb 10 n) ≡ end - 2 + 1 = ap (λ b. end - 1 - bool_byte b) (lt-leb 10 n (omega arith)) ∙ omega arith in
          let digit : n % 10 ≡ n = omega arith in
          ap (λ k. drop k new) at ∙ sym (drop-drop 1 (end - 2) new) ∙ ap (drop 1) pair ∙ ap (λ d. (48 + d) ∷ after) digit ∙ ap (λ l. l ++ after) (sym (decimal_digit n (omega arith)))
    ]

-- before a digit there is room for another
pub first_room : (n end : ℕ) → n < 100 → length (decimal n) < end → 2 ≤ end
first_room n end small room = omega (arith, room, first_length n small)

-- a number of up to 2^63 has at most 19 digits
pub few_digits : (n : ℕ) → n ≤ 2 ^ 63 → length (decimal n) ≤ 19
few_digits n h = length-decimal-le 19 n (omega arith) (omega arith) (omega arith)

not_below : (n : ℕ) → lt_z (pos n) (pos 0) ≡ false
not_below n = leb-suc-zero n

-- the text of a number before whose digits the sign is written
pub signed_text : (z : ℤ) (start : ℕ) (new after : List ℕ) → 1 ≤ start → start ≤ length new → drop start new ≡ decimal (unsigned_abs z) ++ after
    → drop (start - bool_byte (lt_z z (pos 0))) (set new (start - 1) 45) ≡ signed_decimal z ++ after
signed_text (pos n) start new after room inside digits =
    let same : start - 0 ≡ start = omega arith in
    ap (λ b. drop (start - bool_byte b) (set new (start - 1) 45)) (not_below n) ∙ ap (λ k. drop k (set new (start - 1) 45)) same ∙ drop-set-lt start new (start - 1) 45 (omega arith) ∙ digits
signed_text (negsuc n) start new after room inside digits =
    let next : start - 1 + 1 ≡ start = omega arith in
    drop-set new (start - 1) 45 (omega arith) ∙ ap (λ k. 45 ∷ drop k new) next ∙ ap (λ l. 45 ∷ l) digits

pub sign_at_most : (z : ℤ) → bool_byte (lt_z z (pos 0)) ≤ 1
sign_at_most z = at_most (lt_z z (pos 0))
  where
    at_most : (b : Bool) → bool_byte b ≤ 1
    at_most true = omega arith
    at_most false = omega arith
