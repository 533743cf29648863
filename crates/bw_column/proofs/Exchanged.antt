-- Rows of a mask that take the codes that another column of the same encoding has there.
use Rattle.std.proofs.Common.{Bool, Option, ap, arith, if◌then◌else◌, is_some, nat_lt, refl, ℕ, ℤ, ◌&&◌, ◌+◌, ◌-◌, ◌<◌, ◌≡◌, ◌≤◌, ◌∙◌}
use Rattle.std.proofs.lemmas.Bool.{lt-ltb}
use Rattle.bw_mask.specs.Masks.{MaskRows, bit_of, len, row_at}
use Rattle.bw_code.specs.Columns.{CodeList, code_at, count, is_chosen}
use Rattle.bw_code.proofs.Runs.{chosen_below, chosen_past, chosen_row}
use Rattle.bw_code.specs.declared.encoding.Encoding.{Encoding}
use Rattle.bw_code.specs.declared.kind.Layout.{Layout}
use Rattle.bw_column.specs.Codes.{AreRowCodes, IsCoded, code_for, values_from}
use Rattle.bw_column.specs.Places.{chosen_values, overwritten}
use Rattle.bw_column.specs.Values.{IsNullOrHeld, value_at}
use Rattle.bw_column.proofs.Chosen.{holds_any, rows_chosen, values_chosen}
use Rattle.bw_column.proofs.Filled.{all_put}
use Rattle.bw_column.proofs.Ordered.{chosen_at}
use Rattle.bw_column.proofs.Rows.{known_rows, row_codes, row_coded}

-- the bits of n rows from `at` on, of which the chosen ones are taken
module _ (at n bits taken : ℕ) (row given new old : ℕ → Bool) (is : (k : ℕ) → bit_of bits k ≡ (nat_lt k n && row (at + k))) (taken_is : (k : ℕ) → bit_of taken k ≡ (nat_lt k n && given (at + k)))
    (put : (j : ℕ) → new j ≡ (if is_chosen at bits j then bit_of taken (j - at) else old j)) where
  pub bits_before : (j : ℕ) → j < at → new j ≡ old j
  bits_before j h = put j ∙ rw (chosen_below at bits j h) refl

  pub bits_here : (j : ℕ) → at ≤ j → j < at + n → new j ≡ (if row j then given j else old j)
  bits_here j h l =
      let here : at + (j - at) ≡ j = omega (arith, h) in
      let low : j - at < n = omega (arith, h, l) in
      let own : bit_of taken (j - at) ≡ given j = taken_is (j - at) ∙ rw (lt-ltb (j - at) n low, here) refl in
      put j ∙ rw (chosen_row at n bits row is j h l, own) refl

  pub bits_past : (j : ℕ) → at + n ≤ j → new j ≡ old j
  bits_past j h = put j ∙ rw (chosen_past at n bits row is j h) refl

module _ {l : Layout} (e : Encoding) (codes others new : CodeList) (nonnull present new_nonnull places : MaskRows) (are : AreRowCodes l e codes nonnull) (others_are : AreRowCodes l e others present)
    (width_stays : new.width ≡ codes.width) (count_stays : count new ≡ count codes) (len_stays : len new_nonnull ≡ len nonnull)
    (codes_are : (j : ℕ) → j < count codes → code_at new j ≡ (if row_at places j then code_at others j else code_at codes j))
    (rows_are : (j : ℕ) → row_at new_nonnull j ≡ (if row_at places j then row_at present j else row_at nonnull j)) where
  abbrev v : ℕ → Option ℤ
  v = value_at (values_from e others present)

  coded_at : (j : ℕ) → IsCoded e (v j)
  coded_at = holds_any (IsCoded e) (values_from e others present) tt (row_coded e others present others_are)

  held_at : (j : ℕ) → IsNullOrHeld l (v j)
  held_at = holds_any (IsNullOrHeld l) (values_from e others present) tt others_are.held

  code_now : (j : ℕ) → j < count codes → code_at new j ≡ (if row_at places j then code_for e (v j) else code_at codes j)
  code_now j h = codes_are j h ∙ ap (λ code. if row_at places j then code else code_at codes j) (row_codes e others present others_are j)

  row_now : (j : ℕ) → row_at new_nonnull j ≡ (if row_at places j then is_some (v j) else row_at nonnull j)
  row_now j = rows_are j ∙ ap (λ b. if row_at places j then b else row_at nonnull j) (known_rows e others present others_are j)

  pub rows_taken : AreRowCodes l e new new_nonnull
  rows_taken = rows_chosen e codes new nonnull new_nonnull are width_stays (row_at places) v (λ j t. coded_at j) (λ j t. held_at j) count_stays len_stays code_now row_now

  pub values_taken : values_from e new new_nonnull ≡ overwritten places (chosen_values places (values_from e others present)) (values_from e codes nonnull)
  values_taken =
      all_put places v (values_from e codes nonnull) (values_from e new new_nonnull) (chosen_values places (values_from e others present))
      (values_chosen e codes new nonnull new_nonnull are width_stays (row_at places) v (λ j t. coded_at j) (λ j t. held_at j) count_stays len_stays code_now row_now)
      (chosen_at places (values_from e others present))
