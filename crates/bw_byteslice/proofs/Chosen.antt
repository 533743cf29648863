-- Codes of the chosen rows of a run of at most 64 are written, and all others stay.
use Rattle.std.proofs.Common.{List, [], ap, arith, false, get_or, if◌then◌else◌, inl, inr, length, refl, sym, true, ℕ, ◌*◌, ◌+◌, ◌-◌, ◌/◌, ◌<◌, ◌^◌, ◌≡◌, ◌≤◌, ◌∙◌}
use Rattle.std.proofs.lemmas.Bool.{both_ways, cases_Bool, cases_lt}
use Rattle.bw_mask.specs.Masks.{bit_of}
use Rattle.bw_mask.proofs.Bits.{bit_above}
use Rattle.bw_code.specs.Columns.{Fit, is_chosen}
use Rattle.bw_code.specs.Lists.{made}
use Rattle.bw_code.specs.Units.{digit, segments_of}
use Rattle.bw_code.proofs.Lists.{made_at, made_len}
use Rattle.bw_code.proofs.Runs.{chosen_above, chosen_from, put_here, put_left, put_to, run_is}
use Rattle.bw_byteslice.specs.Slices.{shift_of, slices_of}
use Rattle.bw_byteslice.specs.Storing.{AreSlices, byte_of, code_of}
use Rattle.bw_byteslice.proofs.Keeping.{byte_is_digit, code_fits, code_inside, slices_put}
use Rattle.bw_byteslice.proofs.Numbers.{number_same}

-- of m rows from `at` on, row at + r gets the code f r where bit r of the word is set
module _ (k n at rows m : ℕ) (f : ℕ → ℕ) (before after : List (List ℕ)) (stored : AreSlices k n before) (fits : at + m ≤ n) (small : (r : ℕ) → f r < 2 ^ k)
    (none : (r : ℕ) → m ≤ r → bit_of rows r ≡ false)
    (put : (i r : ℕ) → i < slices_of k → r < m → bit_of rows r ≡ true → byte_of after (at + r) i ≡ digit 256 (slices_of k) (f r * 2 ^ shift_of k) i)
    (kept : (i j : ℕ) → (at ≤ j → bit_of rows (j - at) ≡ false) → byte_of after j i ≡ byte_of before j i) where
  -- the codes of all rows of the run
  abbrev new : ℕ → ℕ
  new r = if bit_of rows r then f r else code_of k before (at + r)

  abbrev codes : List ℕ
  codes = made m new

  long : length codes ≡ m
  long = made_len m new

  new_small : (r : ℕ) → new r < 2 ^ k
  new_small r = elim (cases_Bool (bit_of rows r)) [ inl e ↦ rw e (small r) | inr e ↦ rw e (code_fits k n before stored (at + r)) ]

  fit : Fit k codes
  fit r d h = rw (made_at m new r d (omega (arith, h, long))) (new_small r)

  inside : (i r : ℕ) → i < slices_of k → r < length codes → byte_of after (at + r) i ≡ digit 256 (slices_of k) (get_or codes r 0 * 2 ^ shift_of k) i
  inside i r low h =
      let here : r < m = omega (arith, h, long) in
      let own : at + r - at ≡ r = omega arith in
      rw (made_at m new r 0 here) (elim (cases_Bool (bit_of rows r)) [
        | inl e ↦ rw e (put i r low here e)
        | inr e ↦ rw e (kept i (at + r) (λ _. rw own e) ∙ byte_is_digit k n before stored i (at + r) low)
      ])

  outside : (i j : ℕ) → (at ≤ j → at + length codes ≤ j) → byte_of after j i ≡ byte_of before j i
  outside i j apart = kept i j (λ up. none (j - at) (omega (arith, apart up, long)))

  pub slices_kept : length after ≡ length before → ((i : ℕ) → i < slices_of k → length (get_or after i []) ≡ 32 * segments_of 32 n) → AreSlices k n after
  slices_kept count all = slices_put k at codes before after fit inside outside n n stored (omega arith) stored.few (omega (arith, fits, long)) count all

  abbrev old : List ℕ
  old = made n (code_of k before)

  abbrev at_row : ℕ → ℕ
  at_row j = f (j - at)

  code_left : (j : ℕ) → is_chosen at rows j ≡ false → code_of k after j ≡ code_of k before j
  code_left j e = ap (λ x. x / 2 ^ shift_of k) (number_same (slices_of k) (byte_of after j) (byte_of before j) (λ i _. kept i j (λ up. sym (chosen_from at rows j up) ∙ e)))

  code_here : (j : ℕ) → is_chosen at rows j ≡ true → code_of k after j ≡ f (j - at)
  code_here j e =
      let up : at ≤ j = chosen_above at rows j e in
      let bit : bit_of rows (j - at) ≡ true = sym (chosen_from at rows j up) ∙ e in
      let here : j - at < m = elim (cases_lt (j - at) m) [ inl l ↦ l | inr l ↦ absurd (both_ways (bit_of rows (j - at)) (none (j - at) l) bit) ] in
      let place : at + (j - at) ≡ j = omega (arith, up) in
      ap (code_of k after) (sym place) ∙ code_inside k at codes before after fit inside outside (j - at) (omega (arith, here, long)) ∙ made_at m new (j - at) 0 here ∙ rw bit refl

  pub codes_put : made n (code_of k after) ≡ made (length old) (put_to old at rows at_row)
  codes_put =
      run_is old at rows at_row (made n (code_of k after)) (made_len n (code_of k after) ∙ sym (made_len n (code_of k before))) (λ j h.
      let low : j < n = omega (arith, h, made_len n (code_of k before)) in
      made_at n (code_of k after) j 0 low ∙ elim (cases_Bool (is_chosen at rows j)) [
        | inl e ↦ code_here j e ∙ sym (put_here old at rows at_row j e)
        | inr e ↦ code_left j e ∙ sym (made_at n (code_of k before) j 0 low) ∙ sym (put_left old at rows at_row j e)
      ])

-- no row after the run's is chosen, where none is after the last
pub none_behind : (n at rows m : ℕ) → rows < 2 ^ 64 → (at + m < n → 64 ≤ m) → ((r : ℕ) → bit_of rows r ≡ true → at + r < n) → (r : ℕ) → m ≤ r → bit_of rows r ≡ false
none_behind n at rows m fits end there r h =
    elim (cases_Bool (bit_of rows r)) [
      | inl e ↦ let low = there r e in bit_above rows r fits (omega (arith, h, end (omega (arith, low, h))))
      | inr e ↦ e
    ]
