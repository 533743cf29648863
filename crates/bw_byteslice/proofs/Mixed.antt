-- The bytes of some rows of slices become those of other numbers, and the other rows stay.
use Rattle.std.proofs.Common.{List, [], ap, arith, false, get_or, if◌then◌else◌, inl, inr, length, subst, sym, true, ℕ, ◌%◌, ◌/◌, ◌<◌, ◌^◌, ◌∙◌, ◌≡◌}
use Rattle.std.proofs.lemmas.Bool.{cases_Bool, cases_lt}
use Rattle.std.proofs.lemmas.List.{get_or_past}
use Rattle.bw_mask.specs.Masks.{MaskRows, len, row_at}
use Rattle.bw_code.specs.Lists.{made}
use Rattle.bw_code.proofs.Lists.{made_at}
use Rattle.bw_byteslice.specs.Slices.{number_of, shift_of, slices_of}
use Rattle.bw_byteslice.specs.Storing.{AreSlices, byte_of, code_of, number_at}
use Rattle.bw_byteslice.proofs.Numbers.{number_same}

-- byte i of row j becomes byte j i where the row is chosen
module _ (k n : ℕ) (old new : List (List ℕ)) (rows : MaskRows) (byte : ℕ → ℕ → ℕ) (stored : AreSlices k n old)
    (each : (i j : ℕ) → i < slices_of k → byte_of new j i ≡ (if row_at rows j then byte j i else byte_of old j i)) where
  number_there : (j : ℕ) → row_at rows j ≡ true → number_at (slices_of k) new j ≡ number_of (slices_of k) (byte j)
  number_there j on = number_same (slices_of k) (byte_of new j) (byte j) (λ i h. rw on at (each i j h))

  number_left : (j : ℕ) → row_at rows j ≡ false → number_at (slices_of k) new j ≡ number_at (slices_of k) old j
  number_left j off = number_same (slices_of k) (byte_of new j) (byte_of old j) (λ i h. rw off at (each i j h))

  code_mixed : (j code : ℕ) → number_of (slices_of k) (byte j) / 2 ^ shift_of k ≡ code → code_of k new j ≡ (if row_at rows j then code else code_of k old j)
  code_mixed j code is =
      elim (cases_Bool (row_at rows j)) [
        | inl on ↦ rw on (ap (λ x. x / 2 ^ shift_of k) (number_there j on) ∙ is)
        | inr off ↦ rw off (ap (λ x. x / 2 ^ shift_of k) (number_left j off))
      ]

  pub codes_mixed : (j code : ℕ) → j < n → number_of (slices_of k) (byte j) / 2 ^ shift_of k ≡ code
      → get_or (made n (code_of k new)) j 0 ≡ (if row_at rows j then code else get_or (made n (code_of k old)) j 0)
  codes_mixed j code h is = rw (made_at n (code_of k new) j 0 h, made_at n (code_of k old) j 0 h) (code_mixed j code is)

  module _ (long : len rows ≡ n) (count : length new ≡ length old) (same : (i : ℕ) → length (get_or new i []) ≡ length (get_or old i []))
      (small : (i j : ℕ) → byte j i < 256) (spare : (j : ℕ) → number_of (slices_of k) (byte j) % 2 ^ shift_of k ≡ 0) where
    byte_small : (i j : ℕ) → byte_of new j i < 256
    byte_small i j =
        elim (cases_lt i (slices_of k)) [
          | inl low ↦
              elim (cases_Bool (row_at rows j)) [
                | inl on ↦ subst (λ b. b < 256) (sym (rw on at (each i j low))) (small i j)
                | inr off ↦ subst (λ b. b < 256) (sym (rw off at (each i j low))) (stored.bytes i j)
              ]
          | inr high ↦ let none = ap (λ xs. get_or xs j 0) (get_or_past new i [] (omega (arith, high, count, stored.count))) in omega (arith, none)
        ]

    number_spare : (j : ℕ) → number_at (slices_of k) new j % 2 ^ shift_of k ≡ 0
    number_spare j =
        elim (cases_Bool (row_at rows j)) [
          | inl on ↦ ap (λ x. x % 2 ^ shift_of k) (number_there j on) ∙ spare j
          | inr off ↦ ap (λ x. x % 2 ^ shift_of k) (number_left j off) ∙ stored.spare j
        ]

    pub slices_mixed : AreSlices k n new
    slices_mixed = record {
      some = stored.some;
      narrow = stored.narrow;
      few = stored.few;
      count = count ∙ stored.count;
      long = λ i h. same i ∙ stored.long i h;
      bytes = byte_small;
      spare = number_spare;
      clean = λ j h. number_left j (get_or_past rows.rows j false (omega (arith, long, h))) ∙ stored.clean j h;
    }
