-- Rows of one word of each plane are overwritten.
use Rattle.std.proofs.Common.{Bool, List, ap, arith, bit_and, false, if◌then◌else◌, inl, inr, length, not, refl, sym, true, ℕ, ◌%◌, ◌&&◌, ◌*◌, ◌+◌, ◌-◌, ◌/◌, ◌<◌, ◌^◌, ◌||◌, ◌≡◌, ◌≤◌, ◌∙◌}
use mathlib.Core.Logic.{◌≢◌}
use Rattle.std.proofs.lemmas.Bool.{both_ways, cases_Bool, cases_lt}
use Rattle.bw_mask.specs.Masks.{bit_of}
use Rattle.bw_mask.proofs.Bits.{bit_of_and, bit_of_andnot, bit_of_or}
use Rattle.bw_code.specs.Columns.{is_chosen}
use Rattle.bw_code.specs.Lists.{made}
use Rattle.bw_code.proofs.Lists.{made_at}
use Rattle.bw_code.proofs.Runs.{chosen_below, chosen_from, put_here, put_left, put_to, run_is}
use Rattle.bw_vertical.specs.Storage.{blended, code_of, codes_of, is_set, word_of}
use Rattle.bw_vertical.proofs.Holding.{code_is, code_same, codes_len}
use Rattle.bw_vertical.proofs.Settings.{word_row}

choice : (a b row : Bool) → ((a && not row) || (b && row)) ≡ (if row then b else a)
choice true true true = refl
choice true true false = refl
choice true false true = refl
choice true false false = refl
choice false true true = refl
choice false true false = refl
choice false false true = refl
choice false false false = refl

pub blended_bit : (rows new old r : ℕ) → rows < 2 ^ 64 → r < 64 → bit_of (blended rows new old) r ≡ (if bit_of rows r then bit_of new r else bit_of old r)
blended_bit rows new old r small h =
    bit_of_or (bit_and old (2 ^ 64 - 1 - rows)) (bit_and new rows) r
    ∙ ap (λ (b : Bool). b || bit_of (bit_and new rows) r) (bit_of_andnot old rows r small h)
    ∙ ap (λ (b : Bool). (bit_of old r && not (bit_of rows r)) || b) (bit_of_and new rows r)
    ∙ choice (bit_of old r) (bit_of new r) (bit_of rows r)

-- a row of a word that is blended
pub row_blended : (k i w rows word r : ℕ) (new old : List (List (List ℕ))) → rows < 2 ^ 64 → r < 64 → word_of k new i w ≡ blended rows word (word_of k old i w)
    → is_set k new i (64 * w + r) ≡ (if bit_of rows r then bit_of word r else is_set k old i (64 * w + r))
row_blended k i w rows word r new old small h is =
    word_row k i w r new h ∙ ap (λ x. bit_of x r) is ∙ blended_bit rows word (word_of k old i w) r small h ∙ ap (λ (b : Bool). if bit_of rows r then bit_of word r else b) (sym (word_row k i w r old h))

-- the chosen rows of word w have the codes that stand at their places
module _ (k w at rows : ℕ) (code : ℕ → ℕ) (old new : List (List (List ℕ))) (first : at ≡ 64 * w)
    (put : (i r : ℕ) → i < k → r < 64 → is_set k new i (64 * w + r) ≡ (if bit_of rows r then bit_of (code r) (k - 1 - i) else is_set k old i (64 * w + r)))
    (other : (i v : ℕ) → i < k → v ≢ w → word_of k new i v ≡ word_of k old i v)
    (high : (r : ℕ) → 64 ≤ r → bit_of rows r ≡ false) where
  elsewhere : (i j : ℕ) → i < k → j / 64 ≢ w → is_set k new i j ≡ is_set k old i j
  elsewhere i j h away = ap (λ x. bit_of x (j % 64)) (other i (j / 64) h away)

  inside : (i j : ℕ) → i < k → at ≤ j → j < at + 64 → is_set k new i j ≡ (if bit_of rows (j - at) then bit_of (code (j - at)) (k - 1 - i) else is_set k old i j)
  inside i j h from to =
      let here : 64 * w + (j - at) ≡ j = omega (arith, from, first) in
      let each = put i (j - at) h (omega (arith, from, to)) in
      rw here at each

  pub left : (i j : ℕ) → i < k → is_chosen at rows j ≡ false → is_set k new i j ≡ is_set k old i j
  left i j h out =
      elim (cases_lt j at) [
        | inl below ↦ elsewhere i j h (λ e. omega (arith, first, below, e))
        | inr from ↦
            elim (cases_lt j (at + 64)) [
              | inl to ↦ let no : bit_of rows (j - at) ≡ false = sym (chosen_from at rows j from) ∙ out in inside i j h from to ∙ rw no refl
              | inr past ↦ elsewhere i j h (λ e. omega (arith, first, past, e))
            ]
      ]

  pub taken : (i j : ℕ) → i < k → is_chosen at rows j ≡ true → is_set k new i j ≡ bit_of (code (j - at)) (k - 1 - i)
  taken i j h in_ =
      elim (cases_lt j at) [
        | inl below ↦ absurd (both_ways (is_chosen at rows j) (chosen_below at rows j below) in_)
        | inr from ↦
            let yes : bit_of rows (j - at) ≡ true = sym (chosen_from at rows j from) ∙ in_ in
            elim (cases_lt j (at + 64)) [
              | inl to ↦ inside i j h from to ∙ rw yes refl
              | inr past ↦ absurd (both_ways (bit_of rows (j - at)) (high (j - at) (omega (arith, past))) yes)
            ]
      ]

  pub rest_left : (n : ℕ) → ((j : ℕ) → n ≤ j → is_chosen at rows j ≡ false) → (i j : ℕ) → i < k → n ≤ j → is_set k new i j ≡ is_set k old i j
  rest_left n none i j h l = left i j h (none j l)

  pub codes_put : (n : ℕ) → ((r : ℕ) → code r < 2 ^ k) → codes_of k new n ≡ made (length (codes_of k old n)) (put_to (codes_of k old n) at rows (λ j. code (j - at)))
  codes_put n small =
      run_is (codes_of k old n) at rows (λ j. code (j - at)) (codes_of k new n) (codes_len k n new ∙ sym (codes_len k n old)) (λ j h.
      let low : j < n = omega (arith, h, codes_len k n old) in
      made_at n (code_of k new) j 0 low
      ∙ elim (cases_Bool (is_chosen at rows j)) [
        | inl in_ ↦ code_is k j (code (j - at)) new (small (j - at)) (λ i l. taken i j l in_) ∙ sym (put_here (codes_of k old n) at rows (λ m. code (m - at)) j in_)
        | inr out ↦ code_same k j new old (λ i l. left i j l out) ∙ sym (put_left (codes_of k old n) at rows (λ m. code (m - at)) j out ∙ made_at n (code_of k old) j 0 low)
      ])
