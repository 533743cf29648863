-- The codes of a column by its words.
use Rattle.std.proofs.Common.{List, ap, arith, below_more, drop, get_or, inl, inr, length, ltb, refl, set, subst, sym, take, ◌++◌, ◌&&◌, ℕ, ◌%◌, ◌*◌, ◌+◌, ◌/◌, ◌<◌, ◌==◌, ◌^◌, ◌≡◌, ◌≢◌, ◌≤◌, ◌∙◌, if◌then◌else◌}
use Rattle.std.specs.List.{All}
use Rattle.std.specs.Int.{bit_at, div_ceil}
use Rattle.std.proofs.lemmas.Bool.{cases_lt, eq-eqb, le-ltb, lt-ltb, ne_eqb}
use Rattle.std.proofs.lemmas.Grind.{div_ceil_times}
use Rattle.std.proofs.lemmas.List.{get_or_default, get_or_past}
use Rattle.std.proofs.lemmas.Nat.{div-add-mod', le-div, pow_pos}
use Rattle.std.proofs.lemmas.Nat.Bits.{bit_at_above}
use Rattle.std.proofs.Math.Nat.{mul-div-le, mul-le-mul_left, mul-le-mul_right, zero-div, zero-mod}
use Rattle.std.proofs.Math.Seq.{take-append_seam}
use Rattle.bw_mask.specs.Masks.{bit_of}
use Rattle.bw_lane.specs.Sections.{IsStored, section_of, sections_in}
use Rattle.bw_lane.proofs.Joins.{bit_of_section}
use Rattle.bw_code.proofs.Lists.{made_at, made_len, made_more, made_set}
use Rattle.bw_code.specs.Units.{segments_of}
use Rattle.bw_horizontal.specs.Words.{AreWords, code_in, codes_of, room_in, row_of_bit, section_in, segment_rows, word_of}
use Rattle.bw_horizontal.proofs.Places.{row_section, row_segment, row_word, rows_pos, section_low}

pub section_zero : (k t : ℕ) → section_of k t 0 ≡ 0
section_zero k t = ap (λ n. n % 2 ^ (k + 1)) (zero-div (2 ^ (t * (k + 1)))) ∙ zero-mod (2 ^ (k + 1))

pub zero_stored : (k : ℕ) → IsStored k 0
zero_stored k = record {
  no_spare = pow_pos (sections_in k * (k + 1));
  codes = λ t h. subst (λ n. n < 2 ^ k) (sym (section_zero k t)) (pow_pos k);
}

-- each word, and 0 past the last
pub stored_at : (k : ℕ) (words : List ℕ) → All (IsStored k) words → (i : ℕ) → IsStored k (get_or words i 0)
stored_at k words stored i =
    elim (cases_lt i (length words)) [
      | inl h ↦ stored i 0 h
      | inr h ↦ subst (IsStored k) (sym (get_or_past words i 0 h)) (zero_stored k)
    ]

pub all_stored : (k : ℕ) (words more : List ℕ) → All (IsStored k) words → ((i : ℕ) → get_or more i 0 ≡ get_or words i 0) → All (IsStored k) more
all_stored k words more stored same i d h = subst (IsStored k) (sym (get_or_default more i d 0 h ∙ same i)) (stored_at k words stored i)

pub code_below : (k : ℕ) (words : List ℕ) → k ≤ 32 → All (IsStored k) words → (j : ℕ) → code_in k words j < 2 ^ k
code_below k words narrow stored j = (stored_at k words stored (word_of k j)).codes (section_in k j) (section_low k j narrow)

-- the segment of a row of n
pub segment_there : (rows n j : ℕ) → 0 < rows → j < n → j / rows < div_ceil n rows
segment_there rows n j pos h =
    elim (cases_lt (j / rows) (div_ceil n rows)) [
      | inl l ↦ l
      | inr l ↦ absurd (omega (arith, (div_ceil_times n rows pos).0, mul-le-mul_right {m = div_ceil n rows} {n = j / rows} rows l, div-add-mod' j rows))
    ]

pub word_there : (k n j : ℕ) → k ≤ 32 → j < n → word_of k j < segments_of (segment_rows k) n * (k + 1)
word_there k n j narrow h =
    let segment = segment_there (segment_rows k) n j (rows_pos k narrow) h in
    let low : j % segment_rows k % (k + 1) < k + 1 = omega arith in
    omega (arith, low, mul-le-mul_right {m = j / segment_rows k + 1} {n = segments_of (segment_rows k) n} (k + 1) (omega (arith, segment)))

-- room in so many words is room for whole segments
pub room_serves : (k n words : ℕ) → k ≤ 32 → n ≤ room_in k words → segments_of (segment_rows k) n * (k + 1) ≤ words
room_serves k n words narrow h =
    let rows = segment_rows k in
    let full : n ≤ rows * (words / (k + 1)) = omega arith in
    let few : div_ceil n rows ≤ words / (k + 1) =
    elim (cases_lt (words / (k + 1)) (div_ceil n rows)) [
      | inl l ↦ absurd (omega (arith, full, (div_ceil_times n rows (rows_pos k narrow)).1, mul-le-mul_right {m = words / (k + 1) + 1} {n = div_ceil n rows} rows (omega (arith, l))))
      | inr l ↦ l
    ] in
    omega (arith, mul-le-mul_right (k + 1) few, mul-div-le words (k + 1))

pub room_made : (k n words : ℕ) → k ≤ 32 → n ≤ 2 ^ 24 → segments_of (segment_rows k) n * (k + 1) ≤ words → n ≤ room_in k words
room_made k n words narrow few h =
    let rows = segment_rows k in
    let full : segments_of (segment_rows k) n ≤ words / (k + 1) = le-div (segments_of (segment_rows k) n) words (k + 1) (omega arith) h in
    let held : n ≤ rows * (words / (k + 1)) = omega (arith, (div_ceil_times n rows (rows_pos k narrow)).0, mul-le-mul_left {m = segments_of (segment_rows k) n} {n = words / (k + 1)} rows full) in
    omega (arith, held, few)

pub room_grows : (k words more : ℕ) → words ≤ more → room_in k words ≤ room_in k more
room_grows k words more h =
    let quotient : words / (k + 1) ≤ more / (k + 1) = le-div (words / (k + 1)) more (k + 1) (omega arith) (omega (arith, mul-div-le words (k + 1))) in
    omega (arith, mul-le-mul_left {m = words / (k + 1)} {n = more / (k + 1)} (segment_rows k) quotient)

-- more rows take no fewer words
pub words_more : (k n more : ℕ) → k ≤ 32 → n ≤ more → segments_of (segment_rows k) n * (k + 1) ≤ segments_of (segment_rows k) more * (k + 1)
words_more k n more narrow h =
    let rows = segment_rows k in
    let few : div_ceil n rows ≤ div_ceil more rows =
    elim (cases_lt (div_ceil more rows) (div_ceil n rows)) [
      | inl l ↦ absurd (omega (arith, (div_ceil_times more rows (rows_pos k narrow)).0, (div_ceil_times n rows (rows_pos k narrow)).1, mul-le-mul_right {m = div_ceil more rows + 1} {n = div_ceil n rows} rows (omega (arith, l))))
      | inr l ↦ l
    ] in
    mul-le-mul_right (k + 1) few

-- the codes of a column
module _ (k n : ℕ) (words : List ℕ) where
  pub count_is : length (codes_of k n words) ≡ n
  count_is = made_len n (code_in k words)

  -- at any row
  pub code_is : AreWords k n words → (j : ℕ) → get_or (codes_of k n words) j 0 ≡ code_in k words j
  code_is h j =
      elim (cases_lt j n) [
        | inl l ↦ made_at n (code_in k words) j 0 l
        | inr l ↦ get_or_past (codes_of k n words) j 0 (omega (arith, count_is)) ∙ sym (h.clean j l)
      ]

  pub row_there : AreWords k n words → (j : ℕ) → j < n → word_of k j < length words
  row_there h j l = subst (λ m. word_of k j < m) (sym h.segments.count) (word_there k n j h.narrow l)

-- bit p of word w
pub bit_is : (k : ℕ) (words : List ℕ) → All (IsStored k) words → (w p : ℕ)
    → bit_of (get_or words w 0) p ≡ (ltb p (sections_in k * (k + 1)) && bit_of (code_in k words (row_of_bit k w p)) (p % (k + 1)))
bit_is k words stored w p =
    elim (cases_lt p (sections_in k * (k + 1))) [
      | inl h ↦
          let e = p % (k + 1) in
          let t = p / (k + 1) in
          let i = w % (k + 1) in
          let q = w / (k + 1) in
          let e_low : e < k + 1 = omega arith in
          let i_low : i < k + 1 = omega arith in
          let there : t < sections_in k = elim (cases_lt t (sections_in k)) [ inl l ↦ l | inr l ↦ absurd (omega (arith, h, mul-le-mul_right (k + 1) l, div-add-mod' p (k + 1))) ] in
          let place : t * (k + 1) + e ≡ p = div-add-mod' p (k + 1) in
          let word : word_of k (row_of_bit k w p) ≡ w = rw (row_segment k q t i i_low there, row_word k q t i i_low there) (div-add-mod' w (k + 1)) in
          let code : code_in k words (row_of_bit k w p) ≡ section_of k t (get_or words w 0) = ap (λ n. section_of k n (get_or words (word_of k (row_of_bit k w p)) 0)) (row_section k q t i i_low there) ∙ ap (λ n. section_of k t (get_or words n 0)) word in
          rw (lt-ltb p (sections_in k * (k + 1)) h, code) (ap (λ n. n == 1) (sym (bit_of_section k t e (get_or words w 0) e_low ∙ ap (bit_at (get_or words w 0)) place)))
      | inr h ↦
          rw (le-ltb p (sections_in k * (k + 1)) h) (ap (λ n. n == 1) (bit_at_above (get_or words w 0) (sections_in k * (k + 1)) p (stored_at k words stored w).no_spare h))
    ]

-- a list that was written over another, of its length
pub written : (n : ℕ) (new old : List ℕ) → length new ≡ n → take n (new ++ drop (length new) old) ≡ new
written n new old len = ap (λ m. take m (new ++ drop (length new) old)) (sym len) ∙ take-append_seam new (drop (length new) old)

-- the other codes, where one is replaced
pub codes_other : (k row code : ℕ) (words new : List ℕ) → ((j : ℕ) → code_in k new j ≡ (if j == row then code else code_in k words j)) → (j : ℕ) → j ≢ row → code_in k new j ≡ code_in k words j
codes_other k row code words new each j ne = each j ∙ ap (λ b. if b then code else code_in k words j) (ne_eqb j row ne)

-- one code replaced
module _ (k n row code : ℕ) (words new : List ℕ) (h : AreWords k n words) (low : row < n) (len : length new ≡ length words) (stored : All (IsStored k) new)
    (each : (j : ℕ) → code_in k new j ≡ (if j == row then code else code_in k words j)) where
  pub words_set : AreWords k n new
  words_set = record {
    some = h.some;
    narrow = h.narrow;
    few = h.few;
    segments = record { count = len ∙ h.segments.count; stored = stored };
    clean = λ j l. codes_other k row code words new each j (λ e. omega (arith, e, l, low)) ∙ h.clean j l;
  }

  pub codes_set : codes_of k n new ≡ set (codes_of k n words) row code
  codes_set = made_set n (code_in k words) (code_in k new) row code low (each row ∙ ap (λ b. if b then code else code_in k words row) (eq-eqb row row refl)) (λ j l ne. codes_other k row code words new each j ne)

-- codes appended
module _ (k n : ℕ) (codes words filled new : List ℕ) (h : AreWords k n words) (few : n + length codes ≤ 2 ^ 24)
    (same : (i : ℕ) → get_or filled i 0 ≡ get_or words i 0) (len : length new ≡ segments_of (segment_rows k) (n + length codes) * (k + 1)) (stored : All (IsStored k) new)
    (put : (i : ℕ) → i < length codes → code_in k new (n + i) ≡ get_or codes i 0)
    (other : (j : ℕ) → (n ≤ j → n + length codes ≤ j) → code_in k new j ≡ code_in k filled j) where
  kept : (j : ℕ) → (n ≤ j → n + length codes ≤ j) → code_in k new j ≡ code_in k words j
  kept j l = other j l ∙ ap (section_of k (section_in k j)) (same (word_of k j))

  pub words_longer : AreWords k (n + length codes) new
  words_longer = record {
    some = h.some;
    narrow = h.narrow;
    few = few;
    segments = record { count = len; stored = stored };
    clean = λ j l. kept j (λ g. l) ∙ h.clean j (omega (arith, l));
  }

  pub codes_longer : codes_of k (n + length codes) new ≡ codes_of k n words ++ codes
  codes_longer = made_more n (code_in k words) (code_in k new) codes 0 (λ j l. kept j (λ g. absurd (omega (arith, g, l)))) put

-- one code more is put
pub codes_more : (k at i : ℕ) (words new codes : List ℕ) → ((j : ℕ) → code_in k new j ≡ (if j == at + i then get_or codes i 0 else code_in k words j)) → ((m : ℕ) → m < i → code_in k words (at + m) ≡ get_or codes m 0)
    → (m : ℕ) → m < i + 1 → code_in k new (at + m) ≡ get_or codes m 0
codes_more k at i words new codes each before =
    below_more (λ m. code_in k new (at + m) ≡ get_or codes m 0) i
    (λ m h. codes_other k (at + i) (get_or codes i 0) words new each (at + m) (λ e. omega arith) ∙ before m h)
    (each (at + i) ∙ ap (λ b. if b then get_or codes i 0 else code_in k words (at + i)) (eq-eqb (at + i) (at + i) refl))
