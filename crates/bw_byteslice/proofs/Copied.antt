-- The numbers of some rows of slices come from other slices of codes of the same width.
use Rattle.std.proofs.Common.{List, [], ap, arith, false, get_or, if◌then◌else◌, inl, inr, length, pos, true, ℕ, ℤ, ◌%◌, ◌*◌, ◌+◌, ◌/◌, ◌<◌, ◌^◌, ◌∙◌, ◌≡◌}
use Rattle.std.proofs.Math.Nat.{mul-mod_left}
use Rattle.std.proofs.lemmas.Bool.{cases_Bool}
use Rattle.std.proofs.lemmas.List.{get_or_past}
use Rattle.bw_mask.specs.Masks.{MaskRows, len, row_at}
use Rattle.bw_code.specs.Lists.{made}
use Rattle.bw_code.specs.Shifts.{IsWord, StaysBelow, shifted}
use Rattle.bw_code.proofs.Lists.{made_at}
use Rattle.bw_byteslice.specs.Slices.{shift_of, slices_of}
use Rattle.bw_byteslice.specs.Storing.{AreSlices, byte_of, code_of, number_at}
use Rattle.bw_byteslice.proofs.Rebased.{number_summed, sum_of, sum_shifted}

module _ (k n word : ℕ) (old other new : List (List ℕ)) (rows moved : MaskRows) (stored : AreSlices k n old) (also : AreSlices k n other)
    (each : (j : ℕ) → number_at (slices_of k) new j ≡ (if row_at rows j then (number_at (slices_of k) other j + (if row_at moved j then word * 2 ^ shift_of k % 2 ^ 64 else 0)) % 256 ^ slices_of k else number_at (slices_of k) old j)) where
  number_there : (j : ℕ) → row_at rows j ≡ true → number_at (slices_of k) new j ≡ sum_of k word other (row_at moved j) j * 2 ^ shift_of k
  number_there j on = number_summed k n word other also (row_at moved j) j (number_at (slices_of k) new j) (rw on at (each j))

  number_left : (j : ℕ) → row_at rows j ≡ false → number_at (slices_of k) new j ≡ number_at (slices_of k) old j
  number_left j off = rw off at (each j)

  module _ (by : ℤ) (word_is : IsWord by word) where
    code_copied : (j : ℕ) → StaysBelow (2 ^ k) (shifted by (row_at moved j) (code_of k other j)) → pos (code_of k new j) ≡ (if row_at rows j then shifted by (row_at moved j) (code_of k other j) else pos (code_of k old j))
    code_copied j fits =
        elim (cases_Bool (row_at rows j)) [
          | inl on ↦ rw on (sum_shifted k n word other also by word_is (row_at moved j) j (number_at (slices_of k) new j) (number_there j on) fits)
          | inr off ↦ rw off (ap (λ x. pos (x / 2 ^ shift_of k)) (number_left j off))
        ]

    pub codes_copied : (j code : ℕ) → j < n → code_of k other j ≡ code → StaysBelow (2 ^ k) (shifted by (row_at moved j) code)
        → pos (get_or (made n (code_of k new)) j 0) ≡ (if row_at rows j then shifted by (row_at moved j) code else pos (get_or (made n (code_of k old)) j 0))
    codes_copied j code h is fits = rw (made_at n (code_of k new) j 0 h, made_at n (code_of k old) j 0 h, ← is) (code_copied j (rw (← is) at fits))

  spare : (j : ℕ) → number_at (slices_of k) new j % 2 ^ shift_of k ≡ 0
  spare j =
      elim (cases_Bool (row_at rows j)) [
        | inl on ↦ ap (λ x. x % 2 ^ shift_of k) (number_there j on) ∙ mul-mod_left (sum_of k word other (row_at moved j) j) (2 ^ shift_of k)
        | inr off ↦ ap (λ x. x % 2 ^ shift_of k) (number_left j off) ∙ stored.spare j
      ]

  pub slices_copied : len rows ≡ n → length new ≡ length old → ((i : ℕ) → length (get_or new i []) ≡ length (get_or old i [])) → ((i j : ℕ) → byte_of new j i < 256) → AreSlices k n new
  slices_copied long count same bytes = record {
    some = stored.some;
    narrow = stored.narrow;
    few = stored.few;
    count = count ∙ stored.count;
    long = λ i h. same i ∙ stored.long i h;
    bytes = bytes;
    spare = spare;
    clean = λ j h. number_left j (get_or_past rows.rows j false (omega (arith, long, h))) ∙ stored.clean j h;
  }
