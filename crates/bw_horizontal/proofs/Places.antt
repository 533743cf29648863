-- The places of rows in words of sections.
use Rattle.std.proofs.Common.{List, ap, arith, get_or, set, if◌then◌else◌, inl, inr, length, refl, subst, sym, ℕ, ◌%◌, ◌*◌, ◌+◌, ◌/◌, ◌<◌, ◌==◌, ◌≡◌, ◌≢◌, ◌≤◌, ◌∙◌, ◌⊎◌}
use Rattle.std.proofs.lemmas.Bool.{cases_eq, cases_lt, eq-eqb, ne_eqb}
use Rattle.std.proofs.lemmas.List.{get_or-set_other, get_or-set_same}
use Rattle.std.proofs.lemmas.Nat.{div-add-mod', div-mul-add, mod-mul-add}
use Rattle.std.proofs.Math.Nat.{lt-div-mul-add, mod-lt, mul-le-mul_right}
use Rattle.bw_lane.specs.Sections.{section_of, sections_in}
use Rattle.bw_horizontal.specs.Words.{code_in, section_in, segment_rows, word_of}

pub rows_pos : (k : ℕ) → k ≤ 32 → 0 < segment_rows k
rows_pos k narrow = omega (arith, lt-div-mul-add {a = 64} {b = k + 1} (omega arith))

-- the row of section t of word i of segment q
module _ (k q t i : ℕ) (low : i < k + 1) (there : t < sections_in k) where
  abbrev pub row : ℕ
  row = segment_rows k * q + (t * (k + 1) + i)

  inside : t * (k + 1) + i < segment_rows k
  inside = omega (arith, low, mul-le-mul_right (k + 1) there)

  turned : row ≡ q * segment_rows k + (t * (k + 1) + i)
  turned = omega arith

  pub row_segment : row / segment_rows k ≡ q
  row_segment = ap (λ n. n / segment_rows k) turned ∙ div-mul-add q (segment_rows k) (t * (k + 1) + i) inside

  row_rest : row % segment_rows k ≡ t * (k + 1) + i
  row_rest = ap (λ n. n % segment_rows k) turned ∙ mod-mul-add q (segment_rows k) (t * (k + 1) + i) inside

  pub row_word : row % segment_rows k % (k + 1) ≡ i
  row_word = ap (λ n. n % (k + 1)) row_rest ∙ mod-mul-add t (k + 1) i low

  pub row_section : section_in k row ≡ t
  row_section = ap (λ n. n / (k + 1)) row_rest ∙ div-mul-add t (k + 1) i low

-- a row by its place
module _ (k j : ℕ) (narrow : k ≤ 32) where
  pub rest_low : j % segment_rows k < segment_rows k
  rest_low = mod-lt _ (rows_pos k narrow)

  pub section_low : section_in k j < sections_in k
  section_low = elim (cases_lt (section_in k j) (sections_in k)) [ inl h ↦ h | inr h ↦ absurd (omega (arith, rest_low, mul-le-mul_right (k + 1) h, div-add-mod' (j % segment_rows k) (k + 1))) ]

  pub row_is : segment_rows k * (j / segment_rows k) + (section_in k j * (k + 1) + j % segment_rows k % (k + 1)) ≡ j
  row_is = omega (arith, div-add-mod' (j % segment_rows k) (k + 1), div-add-mod' j (segment_rows k))

-- rows at one place are one row
pub apart : (k a b : ℕ) → k ≤ 32 → word_of k a ≡ word_of k b → section_in k a ≡ section_in k b → a ≡ b
apart k a b narrow same also =
    let x : a % segment_rows k % (k + 1) < k + 1 = omega arith in
    let y : b % segment_rows k % (k + 1) < k + 1 = omega arith in
    let q : a / segment_rows k ≡ b / segment_rows k = sym (div-mul-add (a / segment_rows k) (k + 1) _ x) ∙ ap (λ n. n / (k + 1)) same ∙ div-mul-add (b / segment_rows k) (k + 1) _ y in
    let i : a % segment_rows k % (k + 1) ≡ b % segment_rows k % (k + 1) = sym (mod-mul-add (a / segment_rows k) (k + 1) _ x) ∙ ap (λ n. n % (k + 1)) same ∙ mod-mul-add (b / segment_rows k) (k + 1) _ y in
    sym (row_is k a narrow) ∙ rw (q, i, also) (row_is k b narrow)

-- the position of the row n rows later, which is in the run of row j or the first after it
module _ (k j n : ℕ) (narrow : k ≤ 32) where
  abbrev q : ℕ
  q = j / segment_rows k

  abbrev t : ℕ
  t = section_in k j

  abbrev i : ℕ
  i = j % segment_rows k % (k + 1)

  pub next_word : i + n < k + 1 → ((j + n) / segment_rows k ≡ q) × ((j + n) % segment_rows k % (k + 1) ≡ i + n) × (section_in k (j + n) ≡ t)
  next_word h =
      let at : segment_rows k * q + (t * (k + 1) + (i + n)) ≡ j + n = omega (arith, row_is k j narrow) in
      let there = section_low k j narrow in
      (subst (λ m. m / segment_rows k ≡ q) at (row_segment k q t (i + n) h there), subst (λ m. m % segment_rows k % (k + 1) ≡ i + n) at (row_word k q t (i + n) h there), subst (λ m. section_in k m ≡ t) at (row_section k q t (i + n) h there))

  pub next_section : i + n ≡ k + 1 → t + 1 < sections_in k → ((j + n) / segment_rows k ≡ q) × ((j + n) % segment_rows k % (k + 1) ≡ 0) × (section_in k (j + n) ≡ t + 1)
  next_section end h =
      let at : segment_rows k * q + ((t + 1) * (k + 1) + 0) ≡ j + n = omega (arith, row_is k j narrow, end) in
      let low : 0 < k + 1 = omega arith in
      (subst (λ m. m / segment_rows k ≡ q) at (row_segment k q (t + 1) 0 low h), subst (λ m. m % segment_rows k % (k + 1) ≡ 0) at (row_word k q (t + 1) 0 low h), subst (λ m. section_in k m ≡ t + 1) at (row_section k q (t + 1) 0 low h))

  pub next_segment : i + n ≡ k + 1 → sections_in k ≤ t + 1 → ((j + n) / segment_rows k ≡ q + 1) × ((j + n) % segment_rows k % (k + 1) ≡ 0) × (section_in k (j + n) ≡ 0)
  next_segment end h =
      let full : t + 1 ≡ sections_in k = omega (arith, section_low k j narrow) in
      let all : (t + 1) * (k + 1) ≡ sections_in k * (k + 1) = ap (λ m. m * (k + 1)) full in
      let at : segment_rows k * (q + 1) + (0 * (k + 1) + 0) ≡ j + n = omega (arith, row_is k j narrow, end, all) in
      let low : 0 < k + 1 = omega arith in
      let there : 0 < sections_in k = omega (arith, full) in
      (subst (λ m. m / segment_rows k ≡ q + 1) at (row_segment k (q + 1) 0 0 low there), subst (λ m. m % segment_rows k % (k + 1) ≡ 0) at (row_word k (q + 1) 0 0 low there), subst (λ m. section_in k m ≡ 0) at (row_section k (q + 1) 0 0 low there))

  -- the words of a run are consecutive
  pub word_on : i + n < k + 1 → word_of k (j + n) ≡ word_of k j + n
  word_on h = let on = next_word h in rw (on.0, on.1) (omega arith)

  pub code_on : i + n < k + 1 → (words : List ℕ) → code_in k words (j + n) ≡ section_of k t (get_or words (word_of k j + n) 0)
  code_on h words = let on = next_word h in ap (λ s. section_of k s (get_or words (word_of k (j + n)) 0)) on.2 ∙ ap (λ w. section_of k t (get_or words w 0)) (word_on h)

-- the codes after the section of one row is replaced
pub code_put : (k row code word : ℕ) (words : List ℕ) → k ≤ 32 → word_of k row < length words
    → ((u : ℕ) → section_of k u word ≡ (if u == section_in k row then code else section_of k u (get_or words (word_of k row) 0)))
    → (j : ℕ) → code_in k (set words (word_of k row) word) j ≡ (if j == row then code else code_in k words j)
code_put k row code word words narrow there each j =
    let w = word_of k row in
    elim (cases_eq j row) [
      | inl same ↦
          let here : code_in k (set words w word) row ≡ code =
          ap (section_of k (section_in k row)) (get_or-set_same words w word 0 there) ∙ each (section_in k row)
          ∙ ap (λ b. if b then code else section_of k (section_in k row) (get_or words w 0)) (eq-eqb _ _ refl) in
          subst (λ n. code_in k (set words w word) n ≡ (if n == row then code else code_in k words n)) (sym same)
          (here ∙ sym (ap (λ b. if b then code else code_in k words row) (eq-eqb row row refl)))
      | inr other ↦
          kept (cases_eq (word_of k j) w) other ∙ sym (ap (λ b. if b then code else code_in k words j) (ne_eqb j row other))
    ]
  where
    kept : (word_of k j ≡ word_of k row) ⊎ (word_of k j ≢ word_of k row) → j ≢ row → code_in k (set words (word_of k row) word) j ≡ code_in k words j
    kept (inl same) other =
        let beside : section_in k j ≢ section_in k row = λ e. other (apart k j row narrow same e) in
        ap (λ n. section_of k (section_in k j) (get_or (set words (word_of k row) word) n 0)) same
        ∙ ap (section_of k (section_in k j)) (get_or-set_same words (word_of k row) word 0 there)
        ∙ each (section_in k j)
        ∙ ap (λ b. if b then code else section_of k (section_in k j) (get_or words (word_of k row) 0)) (ne_eqb _ _ beside)
        ∙ sym (ap (λ n. section_of k (section_in k j) (get_or words n 0)) same)
    kept (inr ne) other = ap (section_of k (section_in k j)) (get_or-set_other words (word_of k row) (word_of k j) word 0 ne)
