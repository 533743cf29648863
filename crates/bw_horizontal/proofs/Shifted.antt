-- Codes counted from another base: what those of a segment are then, and those of a column.
use Rattle.std.proofs.Common.{Bool, List, ap, arith, false, get_or, if◌then◌else◌, length, pos, sym, ℕ, ℤ, ◌%◌, ◌*◌, ◌+◌, ◌-◌, ◌/◌, ◌<◌, ◌^◌, ◌≡◌, ◌≤◌, ◌∙◌}
use Rattle.std.specs.List.{All}
use Rattle.std.proofs.Math.Nat.{mod-eq_of_lt}
use Rattle.std.proofs.Math.Pow.{mod-mod-pow, pow_mono}
use Rattle.std.proofs.lemmas.List.{get_or_past}
use Rattle.std.proofs.lemmas.Nat.{div-add-mod', pow_pos}
use Rattle.bw_mask.specs.Masks.{MaskRows, bit_of, len, row_at}
use Rattle.bw_lane.specs.Sections.{IsStored, section_of, sections_in}
use Rattle.bw_code.specs.Shifts.{IsWord, StaysBelow, shifted}
use Rattle.bw_code.proofs.Lists.{made_at}
use Rattle.bw_code.proofs.Moving.{moved_is}
use Rattle.bw_horizontal.specs.Words.{AreWords, code_in, codes_of, section_in, segment_rows, word_of}
use Rattle.bw_horizontal.proofs.Places.{rest_low, section_low}
use Rattle.bw_horizontal.proofs.Sums.{lowest_added}
use Rattle.bw_horizontal.proofs.Views.{code_below}

-- a number that is low modulo 2^64 is the same modulo fewer bits
low_is : (n bits : ℕ) → bits ≤ 64 → n % 2 ^ 64 < 2 ^ bits → n % 2 ^ bits ≡ n % 2 ^ 64
low_is n bits narrow low =
    let whole : (64 - bits) + bits ≡ 64 = omega (arith, narrow) in
    sym (mod-mod-pow n (64 - bits) bits) ∙ ap (λ w. n % 2 ^ w % 2 ^ bits) whole ∙ mod-eq_of_lt low

-- a number is added to some rows of a segment of words
module _ (k q own by : ℕ) (row : ℕ → Bool) (old words after : List ℕ) (narrow : k ≤ 32)
    (bits : (r : ℕ) → r < segment_rows k → bit_of own r ≡ row (q * segment_rows k + r))
    (inside : (i t : ℕ) → i < k + 1 → t < sections_in k → section_of k t (get_or after (q * (k + 1) + i) 0)
    ≡ (section_of k t (get_or words (q * (k + 1) + i) 0) + (if bit_of own (i + t * (k + 1)) then by % 2 ^ k else 0)) % 2 ^ k) where
  pub segment_shifted : (j : ℕ) → j / segment_rows k ≡ q → code_in k words j ≡ code_in k old j → code_in k after j ≡ (code_in k old j + (if row j then by else 0)) % 2 ^ k
  segment_shifted j e kept =
      let rest = j % segment_rows k in
      let i = j % segment_rows k % (k + 1) in
      let t = section_in k j in
      let low : i < k + 1 = omega arith in
      let there : t < sections_in k = section_low k j narrow in
      let word : word_of k j ≡ q * (k + 1) + i = ap (λ n. n * (k + 1) + i) e in
      let place : i + t * (k + 1) ≡ rest = omega (arith, div-add-mod' rest (k + 1)) in
      let at : q * segment_rows k + rest ≡ j = ap (λ n. n * segment_rows k + rest) (sym e) ∙ div-add-mod' j (segment_rows k) in
      let bit : bit_of own (i + t * (k + 1)) ≡ row j = ap (bit_of own) place ∙ bits rest (rest_low k j narrow) ∙ ap row at in
      let was : section_of k t (get_or words (q * (k + 1) + i) 0) ≡ code_in k old j = ap (λ w. section_of k t (get_or words w 0)) (sym word) ∙ kept in
      ap (λ w. section_of k t (get_or after w 0)) word ∙ inside i t low there ∙ rw (bit, was) (lowest_added (row j) k (code_in k old j) by)

-- the codes of a column to some of which a number was added
module _ (k n : ℕ) (by : ℤ) (word : ℕ) (rows : MaskRows) (words new : List ℕ) (h : AreWords k n words) (long : len rows ≡ n)
    (count : length new ≡ length words) (stored : All (IsStored k) new)
    (each : (j : ℕ) → code_in k new j ≡ (code_in k words j + (if row_at rows j then word else 0)) % 2 ^ k) where
  past : (j : ℕ) → n ≤ j → row_at rows j ≡ false
  past j l = get_or_past rows.rows j false (omega (arith, long, l))

  pub words_shifted : AreWords k n new
  words_shifted = record {
    some = h.some;
    narrow = h.narrow;
    few = h.few;
    segments = record { count = count ∙ h.segments.count; stored = stored };
    clean = λ j l. each j ∙ rw (past j l, h.clean j l) (mod-eq_of_lt (pow_pos k));
  }

  pub codes_shifted : IsWord by word → (j : ℕ) → j < n → StaysBelow (2 ^ k) (shifted by (row_at rows j) (get_or (codes_of k n words) j 0))
      → pos (get_or (codes_of k n new) j 0) ≡ shifted by (row_at rows j) (get_or (codes_of k n words) j 0)
  codes_shifted is j l =
      let there = row_at rows j in
      let code = code_in k words j in
      let most : 2 ^ k ≤ 2 ^ 64 = pow_mono {i = k} {j = 64} (omega (arith, h.narrow)) in
      let small : code < 2 ^ 64 = omega (arith, code_below k words h.narrow h.segments.stored j, most) in
      rw (made_at n (code_in k words) j 0 l, made_at n (code_in k new) j 0 l) (λ fits.
      let both = moved_is by word k is (omega (arith, h.narrow)) there code small fits in
      ap pos (each j ∙ low_is (code + (if there then word else 0)) k (omega (arith, h.narrow)) both.0) ∙ both.1)
