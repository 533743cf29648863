-- The words of a block of planes, and rows in words of 64 rows.
use Rattle.std.proofs.Common.{Bool, List, [], ap, arith, get_or, inl, inr, length, min, nat_lt, refl, replicate, set, sym, ℕ, ◌&&◌, ◌++◌, ◌%◌, ◌*◌, ◌+◌, ◌-◌, ◌/◌, ◌<◌, ◌≡◌, ◌∙◌}
use mathlib.Core.Logic.{◌≢◌}
use Rattle.std.specs.Simd.Lanes.{mask_l}
use Rattle.std.proofs.lemmas.Bool.{cases_lt, le-ltb, lt-ltb}
use Rattle.std.proofs.lemmas.List.{get_or-replicate, get_or-set_other, get_or-set_same, get_or_past, length-replicate}
use Rattle.bw_mask.specs.Masks.{bit_of, row_in, rows_of}
use Rattle.bw_mask.proofs.Views.{rows_append, rows_are, rows_at, rows_len}
use Rattle.bw_code.specs.Lists.{made}
use Rattle.bw_vertical.specs.Planes.{code_by, code_by_planes}

-- row r of word j
pub row_of_word_at : (words : List ℕ) (j r : ℕ) → r < 64 → row_in words (64 * j + r) ≡ bit_of (get_or words j 0) r
row_of_word_at words j r h =
    let word : (64 * j + r) / 64 ≡ j = omega (arith, h) in
    let bit : (64 * j + r) % 64 ≡ r = omega (arith, h) in
    ap (λ m. bit_of (get_or words m 0) ((64 * j + r) % 64)) word ∙ ap (bit_of (get_or words j 0)) bit

-- words that are all 0
pub zero_at : (n m : ℕ) → get_or {A = ℕ} (replicate n 0) m 0 ≡ 0
zero_at n m =
    let zeros : List ℕ = replicate n 0 in
    let long : length zeros ≡ n = length-replicate {A = ℕ} n 0 in
    elim (cases_lt m n) [
      | inl h ↦ get_or-replicate n m 0 0 h
      | inr h ↦ get_or_past zeros m 0 (omega (arith, h, long))
    ]

-- the number of a row by words j of the planes of a block
pub number_of_word : (k j : ℕ) (words : List ℕ) (block : List (List ℕ)) → ((b : ℕ) → b < k → get_or words b 0 ≡ get_or (get_or block b []) j 0) → (r : ℕ) → r < 64
    → code_by k words r ≡ code_by_planes k block (64 * j + r)
number_of_word k j words block same r h =
    let f = λ (b : ℕ). bit_of (get_or words b 0) r in
    let g = λ (b : ℕ). row_in (get_or block b []) (64 * j + r) in
    ap mask_l (rows_are k f (rows_of k g) (rows_len k g) (λ b l.
    rows_at k g b l ∙ row_of_word_at (get_or block b []) j r h ∙ ap (λ w. bit_of w r) (sym (same b l))))

-- rows that are appended word by word
pub rows_and_word : (words : List ℕ) (j n m : ℕ) → 64 * j < n → m ≡ min (n - 64 * j) 64
    → made (min (64 * j) n) (row_in words) ++ made m (bit_of (get_or words j 0)) ≡ made (min (64 * (j + 1)) n) (row_in words)
rows_and_word words j n m inside is =
    let start : min (64 * j) n ≡ 64 * j = omega (arith, inside) in
    let next : 64 * j + m ≡ min (64 * (j + 1)) n = omega (arith, inside, is) in
    ap (λ k. made k (row_in words) ++ made m (bit_of (get_or words j 0))) start
    ∙ sym (rows_append (64 * j) m (row_in words) (row_in words) (bit_of (get_or words j 0)) (λ i h. refl) (λ i h. row_of_word_at words j i (omega (arith, h, is))))
    ∙ ap (λ k. made k (row_in words)) next

-- rows below n that are put word by word
module _ (words : List ℕ) (row : ℕ → Bool) (j n m word : ℕ) (there : j < length words) (is : m ≡ min (n - 64 * j) 64)
    (before : (i : ℕ) → i < 64 * j → row_in words i ≡ (nat_lt i n && row i)) (bits : (i : ℕ) → bit_of word i ≡ (nat_lt i m && row (64 * j + i))) where
  -- a row of word j is below n where its bit is among those that are put
  same_test : (r : ℕ) → r < 64 → nat_lt r m ≡ nat_lt (64 * j + r) n
  same_test r h =
      elim (cases_lt (64 * j + r) n) [
        | inl l ↦ lt-ltb r m (omega (arith, h, is, l)) ∙ sym (lt-ltb (64 * j + r) n l)
        | inr l ↦ le-ltb r m (omega (arith, h, is, l)) ∙ sym (le-ltb (64 * j + r) n l)
      ]

  pub rows_put : (i : ℕ) → i < 64 * (j + 1) → row_in (set words j word) i ≡ (nat_lt i n && row i)
  rows_put i h =
      elim (cases_lt i (64 * j)) [
        | inl p ↦
            let apart : i / 64 ≢ j = λ e. omega (arith, e, p) in
            ap (λ w. bit_of w (i % 64)) (get_or-set_other words j (i / 64) word 0 apart) ∙ before i p
        | inr p ↦
            let r = i - 64 * j in
            let here : 64 * j + (i - 64 * j) ≡ i = omega (arith, p) in
            let low : i - 64 * j < 64 = omega (arith, h, p) in
            ap (row_in (set words j word)) (sym here)
            ∙ row_of_word_at (set words j word) j r low
            ∙ ap (λ w. bit_of w r) (get_or-set_same words j word 0 there)
            ∙ bits r
            ∙ ap (λ t. t && row (64 * j + r)) (same_test r low)
            ∙ ap (λ k. nat_lt k n && row k) here
      ]
