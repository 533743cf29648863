-- Rows of one word of a plane are appended.
use Rattle.std.proofs.Common.{Bool, List, true, ap, arith, bit_or, false, get_or, inl, inr, length, refl, sym, ℕ, ◌%◌, ◌*◌, ◌+◌, ◌-◌, ◌/◌, ◌<◌, ◌^◌, ◌||◌, ◌≡◌, ◌≤◌, ◌∙◌}
use mathlib.Core.Logic.{◌≢◌}
use Rattle.std.proofs.lemmas.Bool.{cases_eq}
use Rattle.std.proofs.lemmas.List.{get_or_past}
use Rattle.bw_mask.specs.Masks.{bit_of}
use Rattle.bw_mask.proofs.Bits.{bit_below_shl, bit_moved_up, bit_of_or, bit_of_shl, bit_of_zero}
use Rattle.bw_vertical.specs.Storage.{is_set, word_of}

or_none : (b : Bool) → (b || false) ≡ b
or_none true = refl
or_none false = refl

-- bit b of each code goes to a row from `at` on, in plane i
module _
    (k i at rows b : ℕ) (codes : List ℕ) (old new : List (List (List ℕ)))
    (few : at % 64 + length codes ≤ 64)
    (rows_are : (r : ℕ) → r < 64 → bit_of rows r ≡ bit_of (get_or codes r 0) b)
    (same : word_of k new i (at / 64) ≡ bit_or (word_of k old i (at / 64)) (rows * 2 ^ (at % 64) % 2 ^ 64))
    (other : (v : ℕ) → v ≢ at / 64 → word_of k new i v ≡ word_of k old i v)
  where
    -- a row of the word
    row_is : (j : ℕ) → j / 64 ≡ at / 64 → is_set k new i j ≡ (is_set k old i j || bit_of (rows * 2 ^ (at % 64) % 2 ^ 64) (j % 64))
    row_is j e =
        ap (λ v. bit_of (word_of k new i v) (j % 64)) e
        ∙ ap (λ w. bit_of w (j % 64)) same
        ∙ bit_of_or (word_of k old i (at / 64)) (rows * 2 ^ (at % 64) % 2 ^ 64) (j % 64)
        ∙ ap (λ v. bit_of (word_of k old i v) (j % 64) || bit_of (rows * 2 ^ (at % 64) % 2 ^ 64) (j % 64)) (sym e)

    pub block_kept : (j : ℕ) → j < at → is_set k new i j ≡ is_set k old i j
    block_kept j h =
        elim (cases_eq (j / 64) (at / 64)) [
          | inl f ↦
              let below : j % 64 < at % 64 = omega (arith, h, f) in
              row_is j f ∙ ap (λ x. is_set k old i j || x) (bit_below_shl rows (at % 64) (j % 64) below (omega arith)) ∙ or_none (is_set k old i j)
          | inr f ↦ ap (λ w. bit_of w (j % 64)) (other (j / 64) f)
        ]

    module _ (clean : (j : ℕ) → at ≤ j → is_set k old i j ≡ false) where
      pub block_added : (r : ℕ) → r < length codes → is_set k new i (at + r) ≡ bit_of (get_or codes r 0) b
      block_added r h =
          let word : (at + r) / 64 ≡ at / 64 = omega (arith, few, h) in
          let bit : (at + r) % 64 ≡ at % 64 + r = omega (arith, few, h) in
          row_is (at + r) word
          ∙ ap (λ x. x || bit_of (rows * 2 ^ (at % 64) % 2 ^ 64) ((at + r) % 64)) (clean (at + r) (omega arith))
          ∙ ap (bit_of (rows * 2 ^ (at % 64) % 2 ^ 64)) bit
          ∙ bit_moved_up rows (at % 64) r (omega (arith, few, h))
          ∙ rows_are r (omega (arith, few, h))

      pub block_behind : (j : ℕ) → at + length codes ≤ j → is_set k new i j ≡ false
      block_behind j h =
          elim (cases_eq (j / 64) (at / 64)) [
            | inl e ↦
                let above : at % 64 ≤ j % 64 = omega (arith, e, h) in
                let past : length codes ≤ j % 64 - at % 64 = omega (arith, e, h) in
                row_is j e
                ∙ ap (λ x. x || bit_of (rows * 2 ^ (at % 64) % 2 ^ 64) (j % 64)) (clean j (omega (arith, h)))
                ∙ bit_of_shl rows (at % 64) (j % 64) above (omega arith)
                ∙ rows_are (j % 64 - at % 64) (omega arith)
                ∙ ap (λ c. bit_of c b) (get_or_past codes (j % 64 - at % 64) 0 past)
                ∙ bit_of_zero b
            | inr d ↦ ap (λ w. bit_of w (j % 64)) (other (j / 64) d) ∙ clean j (omega (arith, h))
          ]
