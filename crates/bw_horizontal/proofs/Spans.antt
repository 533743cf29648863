-- 64 rows in the segments in which they lie.
use Rattle.std.proofs.Common.{List, ap, arith, false, get_or, if◌then◌else◌, inl, inr, length, refl, subst, sym, true, ℕ, ◌%◌, ◌*◌, ◌+◌, ◌-◌, ◌/◌, ◌<◌, ◌^◌, ◌≡◌, ◌≢◌, ◌≤◌, ◌∙◌}
use Rattle.std.specs.List.{All}
use Rattle.std.proofs.Math.Nat.{mul-div-le, mul-div_cancel, mul-le-mul_right}
use Rattle.std.proofs.lemmas.Bool.{cases_Bool, cases_lt}
use Rattle.std.proofs.lemmas.Nat.{div-add-mod', le-div}
use Rattle.bw_mask.specs.Masks.{bit_of}
use Rattle.bw_mask.proofs.Bits.{bit_above}
use Rattle.bw_lane.specs.Sections.{IsStored, section_of, sections_in}
use Rattle.bw_code.specs.Columns.{is_chosen}
use Rattle.bw_code.specs.Lists.{made}
use Rattle.bw_code.proofs.Lists.{made_at, made_len}
use Rattle.bw_code.proofs.Runs.{chosen_above, chosen_from, put_here, put_left, put_to, run_is}
use Rattle.bw_code.specs.Units.{segments_of}
use Rattle.bw_horizontal.specs.Words.{AreWords, code_in, codes_of, section_in, segment_rows, word_of}
use Rattle.bw_horizontal.proofs.Places.{rest_low, rows_pos, section_low}
use Rattle.bw_horizontal.proofs.Views.{segment_there}

pub rows_most : (k : ℕ) → segment_rows k ≤ 64
rows_most k = omega (arith, mul-div-le 64 (k + 1))

-- rows of a segment before that of another row
pub before_row : (k at j : ℕ) → k ≤ 32 → j / segment_rows k < at / segment_rows k → j < at
before_row k at j narrow h =
    elim (cases_lt j at) [
      | inl l ↦ l
      | inr l ↦ absurd (omega (arith, h, le-div (at / segment_rows k) j (segment_rows k) (rows_pos k narrow) (omega (arith, l, div-add-mod' at (segment_rows k)))))
    ]

pub segment_words : (k n q : ℕ) → k ≤ 32 → q * segment_rows k < n → q * (k + 1) + (k + 1) ≤ segments_of (segment_rows k) n * (k + 1)
segment_words k n q narrow h =
    let there : q < segments_of (segment_rows k) n = subst (λ m. m < segments_of (segment_rows k) n) (mul-div_cancel q (rows_pos k narrow)) (segment_there (segment_rows k) n (q * segment_rows k) (rows_pos k narrow) h) in
    omega (arith, mul-le-mul_right {m = q + 1} {n = segments_of (segment_rows k) n} (k + 1) (omega (arith, there)))

-- some rows of a segment of words take a code
module _ (k at rows q own code : ℕ) (old words after : List ℕ) (narrow : k ≤ 32)
    (bits : (r : ℕ) → r < 64 → bit_of own r ≡ is_chosen at rows (q * segment_rows k + r))
    (inside : (i t : ℕ) → i < k + 1 → t < sections_in k → section_of k t (get_or after (q * (k + 1) + i) 0)
    ≡ (if bit_of own (i + t * (k + 1)) then code else section_of k t (get_or words (q * (k + 1) + i) 0))) where
  pub segment_done : (j : ℕ) → j / segment_rows k ≡ q → code_in k words j ≡ code_in k old j → code_in k after j ≡ (if is_chosen at rows j then code else code_in k old j)
  segment_done j e kept =
      let rest = j % segment_rows k in
      let i = j % segment_rows k % (k + 1) in
      let t = section_in k j in
      let low : i < k + 1 = omega arith in
      let there : t < sections_in k = section_low k j narrow in
      let word : word_of k j ≡ q * (k + 1) + i = ap (λ n. n * (k + 1) + i) e in
      let place : i + t * (k + 1) ≡ rest = omega (arith, div-add-mod' rest (k + 1)) in
      let row : q * segment_rows k + rest ≡ j = ap (λ n. n * segment_rows k + rest) (sym e) ∙ div-add-mod' j (segment_rows k) in
      let bit : bit_of own (i + t * (k + 1)) ≡ is_chosen at rows j = ap (bit_of own) place ∙ bits rest (omega (arith, rest_low k j narrow, rows_most k)) ∙ ap (is_chosen at rows) row in
      let was : section_of k t (get_or words (q * (k + 1) + i) 0) ≡ code_in k old j = ap (λ w. section_of k t (get_or words w 0)) (sym word) ∙ kept in
      ap (λ w. section_of k t (get_or after w 0)) word ∙ inside i t low there ∙ rw (bit, was) refl

-- the rows of other segments, where only the words of one change
pub segment_beside : (k q : ℕ) (words after : List ℕ) → ((w : ℕ) → (q * (k + 1) ≤ w → q * (k + 1) + (k + 1) ≤ w) → get_or after w 0 ≡ get_or words w 0)
    → (j : ℕ) → j / segment_rows k ≢ q → code_in k after j ≡ code_in k words j
segment_beside k q words after outside j e =
    let low : j % segment_rows k % (k + 1) < k + 1 = omega arith in
    ap (section_of k (section_in k j)) (outside (word_of k j) (λ up.
    elim (cases_lt (j / segment_rows k) q) [
      | inl l ↦ absurd (omega (arith, up, low, mul-le-mul_right {m = j / segment_rows k + 1} {n = q} (k + 1) (omega (arith, l))))
      | inr l ↦ omega (arith, low, mul-le-mul_right {m = q + 1} {n = j / segment_rows k} (k + 1) (omega (arith, l, e)))
    ]))

-- no row from the end of 64 on is chosen, where none is after the last
pub none_behind : (n at rows end : ℕ) → rows < 2 ^ 64 → (end < n → at + 64 ≤ end) → ((r : ℕ) → bit_of rows r ≡ true → at + r < n) → (j : ℕ) → end ≤ j → is_chosen at rows j ≡ false
none_behind n at rows end fits whole there j h =
    elim (cases_Bool (is_chosen at rows j)) [
      | inl e ↦
          let up : at ≤ j = chosen_above at rows j e in
          let bit : bit_of rows (j - at) ≡ true = sym (chosen_from at rows j up) ∙ e in
          let low = there (j - at) bit in
          chosen_from at rows j up ∙ bit_above rows (j - at) fits (omega (arith, h, up, low, whole (omega (arith, low, up, h))))
      | inr e ↦ e
    ]

-- the codes of a column after some of its rows took others
module _ (k n at rows : ℕ) (f : ℕ → ℕ) (words new : List ℕ) (h : AreWords k n words) (len : length new ≡ length words) (stored : All (IsStored k) new)
    (none : (j : ℕ) → n ≤ j → is_chosen at rows j ≡ false)
    (each : (j : ℕ) → code_in k new j ≡ (if is_chosen at rows j then f j else code_in k words j)) where
  left : (j : ℕ) → is_chosen at rows j ≡ false → code_in k new j ≡ code_in k words j
  left j e = each j ∙ rw e refl

  pub words_blended : AreWords k n new
  words_blended = record {
    some = h.some;
    narrow = h.narrow;
    few = h.few;
    segments = record { count = len ∙ h.segments.count; stored = stored };
    clean = λ j l. left j (none j l) ∙ h.clean j l;
  }

  abbrev old : List ℕ
  old = codes_of k n words

  pub codes_blended : codes_of k n new ≡ made (length old) (put_to old at rows f)
  codes_blended =
      run_is old at rows f (codes_of k n new) (made_len n (code_in k new) ∙ sym (made_len n (code_in k words))) (λ j l.
      let low : j < n = omega (arith, l, made_len n (code_in k words)) in
      made_at n (code_in k new) j 0 low ∙ elim (cases_Bool (is_chosen at rows j)) [
        | inl e ↦ each j ∙ rw e refl ∙ sym (put_here old at rows f j e)
        | inr e ↦ left j e ∙ sym (made_at n (code_in k words) j 0 low) ∙ sym (put_left old at rows f j e)
      ])
