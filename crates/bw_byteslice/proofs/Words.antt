-- 32 rows as the bits of a word.
use Rattle.std.proofs.Common.{Bool, List, get_or, ap, arith, bit_or, inl, inr, eqb, false, not, refl, subst, sym, true, ℕ, ◌%◌, ◌*◌, ◌+◌, ◌-◌, ◌/◌, ◌<◌, ◌^◌, ◌≡◌, ◌≤◌, ◌||◌, ◌∙◌}
use Rattle.std.proofs.Math.Nat.{mul-le-mul_right}
use Rattle.std.proofs.lemmas.Bool.{cases_lt, eq-eqb, ne_eqb}
use Rattle.std.proofs.lemmas.List.{get_or_past}
use Rattle.std.proofs.lemmas.Nat.{shr-shr}
use Rattle.std.proofs.lemmas.Nat.Bits.{bit_at-lt, bit_at-zero, bit_at_above, bit_at_cat_low, same_from_bits_below}
use Rattle.bw_mask.specs.Masks.{MaskRows, bit_of, len, row_at, row_in}
use Rattle.bw_mask.proofs.Bits.{bit_below_shl, bit_of_or, bit_of_shl, bit_of_zero}
use Rattle.bw_code.specs.Units.{segments_of, some_below, sum_below}
use Rattle.bw_code.proofs.Reach.{none_at, none_if, sum_more}

pub empty_is : (w : ℕ) → w < 2 ^ 32 → eqb w 0 ≡ not (some_below 32 (bit_of w))
empty_is w fits = by_cases (some_below 32 (bit_of w)) refl
  where
    by_cases : (b : Bool) → some_below 32 (bit_of w) ≡ b → eqb w 0 ≡ not b
    by_cases false e =
        eq-eqb w 0 (same_from_bits_below 32 w 0 fits (omega arith) (λ i h.
        let out : bit_of w i ≡ false = none_at 32 (bit_of w) e i h in
        grind (arith, out, bit_at-lt w i, bit_at-zero i)))
    by_cases true e = ne_eqb w 0 (λ z. let no : some_below 32 (bit_of w) ≡ false = none_if 32 (bit_of w) (λ i h. ap (λ n. bit_of n i) z ∙ bit_of_zero i) in cc)

-- the low 32 bits of a word
pub low_bit : (w r : ℕ) → r < 32 → bit_of (w % 2 ^ 32) r ≡ bit_of w r
low_bit w r h =
    let whole : w ≡ w / 2 ^ 32 * 2 ^ 32 + w % 2 ^ 32 = omega arith in
    sym (ap (λ n. bit_of n r) whole ∙ ap (λ x. eqb x 1) (bit_at_cat_low (w / 2 ^ 32) 32 (w % 2 ^ 32) r h))

pub high_bit : (w r : ℕ) → bit_of (w / 2 ^ 32) r ≡ bit_of w (32 + r)
high_bit w r = ap (λ n. eqb (n % 2) 1) (shr-shr w 32 r)

module _ (low high : ℕ) (fits : low < 2 ^ 32) (r : ℕ) (h : r < 32) where
  pub joined_low : bit_of (bit_or (high * 2 ^ 32 % 2 ^ 64) low) r ≡ bit_of low r
  joined_low = bit_of_or (high * 2 ^ 32 % 2 ^ 64) low r ∙ ap (λ b. b || bit_of low r) (bit_below_shl high 32 r h (omega arith))

  pub joined_high : bit_of (bit_or (high * 2 ^ 32 % 2 ^ 64) low) (32 + r) ≡ bit_of high r
  joined_high =
      let place : 32 + r - 32 ≡ r = omega arith in
      let none : bit_of low (32 + r) ≡ false = ap (λ x. eqb x 1) (bit_at_above low 32 (32 + r) fits (omega arith)) in
      bit_of_or (high * 2 ^ 32 % 2 ^ 64) low (32 + r)
      ∙ ap (λ b. bit_of (high * 2 ^ 32 % 2 ^ 64) (32 + r) || b) none
      ∙ or_none (bit_of (high * 2 ^ 32 % 2 ^ 64) (32 + r))
      ∙ bit_of_shl high 32 (32 + r) (omega arith) (omega arith)
      ∙ ap (bit_of high) place
    where
      or_none : (b : Bool) → (b || false) ≡ b
      or_none true = refl
      or_none false = refl

-- a segment of which a row is needed is there
module _ (n q : ℕ) (rows need : ℕ → Bool) (each : (r : ℕ) → r < 32 → rows r ≡ need (32 * q + r)) (past : (j : ℕ) → n ≤ j → need j ≡ false) where
  pub none_past : segments_of 32 n ≤ q → some_below 32 rows ≡ false
  none_past h = none_if 32 rows (λ r l. each r l ∙ past (32 * q + r) (omega (arith, h)))

  pub segment_there : (m units : ℕ) → units ≡ segments_of 32 n * m → some_below 32 rows ≡ true → (q + 1) * m ≤ units
  segment_there m units count some =
      elim (cases_lt q (segments_of 32 n)) [
        | inl l ↦ rw count (mul-le-mul_right {m = q + 1} {n = segments_of 32 n} m (omega (arith, l)))
        | inr h ↦ let none = none_past h in absurd cc
      ]

-- a bit of a word of a mask is a row of it
pub word_row : (words : List ℕ) (need : ℕ → Bool) → ((i : ℕ) → row_in words i ≡ need i) → (w e j : ℕ) → e < 64 → 64 * w + e ≡ j → bit_of (get_or words w 0) e ≡ need j
word_row words need each w e j h place =
    let at : (64 * w + e) / 64 ≡ w = omega arith in
    let within : (64 * w + e) % 64 ≡ e = omega arith in
    sym (ap (λ q. bit_of (get_or words q 0) ((64 * w + e) % 64)) at ∙ ap (bit_of (get_or words w 0)) within) ∙ each (64 * w + e) ∙ ap need place

-- segments by twos, where the last of them may have no row
pub sum_by_twos : (n words : ℕ) (f : ℕ → ℕ) → words ≡ (n + 63) / 64 → (segments_of 32 n < 2 * words → f (segments_of 32 n) ≡ 0) → sum_below (2 * words) f ≡ sum_below (segments_of 32 n) f
sum_by_twos n words f count none =
    elim (cases_lt (segments_of 32 n) (2 * words)) [
      | inl l ↦ let one : 2 * words ≡ segments_of 32 n + 1 = omega (arith, count, l) in ap (λ k. sum_below k f) one ∙ omega (arith, sum_more (segments_of 32 n) f, none l)
      | inr h ↦ let same : 2 * words ≡ segments_of 32 n = omega (arith, count, h) in ap (λ k. sum_below k f) same
    ]

-- two segments more
pub sum_two_more : (w : ℕ) (f : ℕ → ℕ) → sum_below (2 * (w + 1)) f ≡ sum_below (2 * w) f + f (2 * w) + f (2 * w + 1)
sum_two_more w f =
    let more : 2 * (w + 1) ≡ 2 * w + 1 + 1 = omega arith in
    ap (λ k. sum_below k f) more ∙ omega (arith, sum_more (2 * w) f, sum_more (2 * w + 1) f)

-- a word of two halves has the rows of two segments
pub halves_found : (word low high w : ℕ) (wanted : ℕ → Bool)
    → ((r : ℕ) → r < 32 → bit_of word r ≡ bit_of low r) → ((r : ℕ) → r < 32 → bit_of word (32 + r) ≡ bit_of high r)
    → ((r : ℕ) → r < 32 → bit_of low r ≡ wanted (32 * (2 * w) + r)) → ((r : ℕ) → r < 32 → bit_of high r ≡ wanted (32 * (2 * w + 1) + r))
    → (r : ℕ) → r < 64 → bit_of word r ≡ wanted (64 * w + r)
halves_found word low high w wanted low_is high_is low_found high_found r h =
    elim (cases_lt r 32) [
      | inl l ↦ let place : 32 * (2 * w) + r ≡ 64 * w + r = omega arith in low_is r l ∙ low_found r l ∙ ap wanted place
      | inr l ↦
          let e = r - 32 in
          let back : 32 + e ≡ r = omega (arith, l) in
          let place : 32 * (2 * w + 1) + e ≡ 64 * w + r = omega (arith, l) in
          let short : e < 32 = omega (arith, l, h) in
          ap (bit_of word) (sym back) ∙ high_is e short ∙ high_found e short ∙ ap wanted place
    ]

-- n rows of a word are appended to those before
pub word_put : (old new : MaskRows) (wanted : ℕ → Bool) (w n word : ℕ) → n ≤ 64 → len new ≡ len old
    → ((j : ℕ) → len old ≤ j → wanted j ≡ false)
    → ((j : ℕ) → j < 64 * w → row_at old j ≡ wanted j)
    → ((r : ℕ) → r < n → bit_of word r ≡ wanted (64 * w + r))
    → ((r : ℕ) → r < 64 → 64 * w + r < len old → row_at new (64 * w + r) ≡ bit_of word r)
    → ((j : ℕ) → (64 * w ≤ j → 64 * w + 64 ≤ j) → row_at new j ≡ row_at old j)
    → (j : ℕ) → j < 64 * w + n → row_at new j ≡ wanted j
word_put old new wanted w n word few same past before bits inside outside j h =
    elim (cases_lt j (64 * w)) [
      | inl l ↦ outside j (λ up. absurd (omega (arith, l, up))) ∙ before j l
      | inr l ↦
          let r = j - 64 * w in
          let at : 64 * w + r ≡ j = omega (arith, l) in
          let within : r < n = omega (arith, l, h) in
          elim (cases_lt j (len old)) [
            | inl there ↦ subst (λ x. row_at new x ≡ wanted x) at (inside r (omega (arith, within, few)) (omega (arith, at, there)) ∙ bits r within)
            | inr gone ↦ get_or_past new.rows j false (omega (arith, gone, same)) ∙ sym (past j gone)
          ]
    ]
