-- Words with one code each.
use Rattle.std.proofs.Common.{Bool, List, ap, arith, drop, false, get_or, if◌then◌else◌, inl, inr, length, length-take, refl, subst, sym, take, true, ℕ, ◌+◌, ◌-◌, ◌*◌, ◌/◌, ◌<◌, ◌^◌, ◌≡◌, ◌≤◌, ◌∙◌}
use Rattle.std.specs.List.{All}
use Rattle.std.proofs.Math.Nat.{mod-eq_of_lt}
use Rattle.std.proofs.lemmas.Bool.{cases_lt}
use Rattle.std.proofs.lemmas.List.{get_or-drop, get_or-take, get_or_default}
use Rattle.bw_mask.specs.Masks.{bit_of}
use Rattle.bw_lane.specs.Sections.{IsStored, section_of}
use Rattle.bw_lane.proofs.Sectionwise.{section_first}
use Rattle.bw_code.specs.Columns.{is_chosen}
use Rattle.bw_code.proofs.Lists.{made_is}
use Rattle.bw_code.proofs.Parts.{before_part, behind_part, in_part}
use Rattle.bw_code.proofs.Runs.{chosen_below, chosen_from}
use Rattle.bw_horizontal.specs.Words.{AreWords, code_in, codes_of, section_in, segment_rows, word_of}
use Rattle.bw_horizontal.proofs.Runs.{part_stored}
use Rattle.bw_horizontal.proofs.Views.{row_there, stored_at}
use borrow.Rule.Slice.PartMut.{put_mid}

pub own_word : (j : ℕ) → word_of 32 j ≡ j
own_word j = omega arith

own_section : (j : ℕ) → section_in 32 j ≡ 0
own_section j = omega arith

-- so many words are there as rows
pub rows_there : (n size : ℕ) → ((j : ℕ) → j < n → word_of 32 j < size) → n ≤ size
rows_there n size there =
    elim (cases_lt 0 n) [
      | inl l ↦ omega (arith, l, there (n - 1) (omega (arith, l)), own_word (n - 1))
      | inr l ↦ omega (arith, l)
    ]

pub segments_there : (n size : ℕ) → ((q : ℕ) → q * segment_rows 32 < n → q * (32 + 1) + (32 + 1) ≤ size) → n ≤ size
segments_there n size there =
    elim (cases_lt 0 n) [
      | inl l ↦ omega (arith, l, there ((n - 1) / 33) (omega (arith, l)))
      | inr l ↦ omega (arith, l)
    ]

whole : (x : ℕ) → x < 2 ^ 33 → section_of 32 0 x ≡ x
whole x h = section_first 32 x ∙ mod-eq_of_lt h

-- the code of a row is its word
pub own_code : (words : List ℕ) → All (IsStored 32) words → (j : ℕ) → code_in 32 words j ≡ get_or words j 0
own_code words stored j =
    ap (λ w. section_of 32 (section_in 32 j) (get_or words w 0)) (own_word j)
    ∙ ap (λ t. section_of 32 t (get_or words j 0)) (own_section j)
    ∙ whole (get_or words j 0) (stored_at 32 words stored j).no_spare

-- the codes are the first words
full : (n : ℕ) (words : List ℕ) → AreWords 32 n words → take n words ≡ codes_of 32 n words
full n words are =
    let enough = rows_there n (length words) (row_there 32 n words are) in
    made_is n (code_in 32 words) (take n words) 0 (omega (arith, length-take n words, enough)) (λ i h.
    get_or-take n words i 0 h ∙ sym (own_code words are.segments.stored i))

pub full_is : (k n : ℕ) (words : List ℕ) → k ≡ 32 → AreWords k n words → take n words ≡ codes_of k n words
full_is k n words wide = subst (λ m. AreWords m n words → take n words ≡ codes_of m n words) (sym wide) (full n words)

-- a code as a word
pub code_stored : (x : ℕ) → x < 2 ^ 32 → IsStored 32 x
code_stored x h = record {
  no_spare = omega (arith, h);
  codes = λ t low.
      let first : t ≡ 0 = omega (arith, low) in
      subst (λ n. section_of 32 n x < 2 ^ 32) (sym first) (subst (λ n. n < 2 ^ 32) (sym (whole x (omega (arith, h)))) h);
}

-- a part of the words is overwritten, each where its row is chosen
module _ (at rows n : ℕ) (words part : List ℕ) (f : ℕ → ℕ) (stored : All (IsStored 32) words) (fits : at + n ≤ length words) (long : length part ≡ n)
    (small : (i : ℕ) → f i < 2 ^ 32)
    (each : (i : ℕ) → i < n → get_or part i 0 ≡ (if bit_of rows i then f i else get_or (take n (drop at words)) i 0))
    (none : (i : ℕ) → n ≤ i → bit_of rows i ≡ false) where
  abbrev new : List ℕ
  new = put_mid at n words part

  is : (i : ℕ) → i < n → get_or part i 0 ≡ (if bit_of rows i then f i else get_or words (at + i) 0)
  is i h = each i h ∙ ap (λ x. if bit_of rows i then f i else x) (get_or-take n (drop at words) i 0 h ∙ get_or-drop at words i 0)

  either : (i : ℕ) (b : Bool) → IsStored 32 (if b then f i else get_or words (at + i) 0)
  either i true = code_stored (f i) (small i)
  either i false = stored_at 32 words stored (at + i)

  part_is : All (IsStored 32) part
  part_is i d h = subst (IsStored 32) (get_or_default part i 0 d h) (subst (IsStored 32) (sym (is i (omega (arith, h, long)))) (either i (bit_of rows i)))

  pub full_stored : All (IsStored 32) new
  full_stored = part_stored 32 at n words part fits long stored part_is

  pub full_codes : (j : ℕ) → code_in 32 new j ≡ (if is_chosen at rows j then f (j - at) else code_in 32 words j)
  full_codes j =
      own_code new full_stored j ∙ elim (cases_lt j at) [
        | inl l ↦ before_part at n words part 0 fits long j l ∙ sym (own_code words stored j) ∙ rw (chosen_below at rows j l) refl
        | inr up ↦
            elim (cases_lt j (at + n)) [
              | inl l ↦
                  let here : at + (j - at) ≡ j = omega (arith, up) in
                  in_part at n words part 0 fits long j up l
                  ∙ is (j - at) (omega (arith, up, l))
                  ∙ ap (λ m. if bit_of rows (j - at) then f (j - at) else get_or words m 0) here
                  ∙ ap (λ x. if bit_of rows (j - at) then f (j - at) else x) (sym (own_code words stored j))
                  ∙ ap (λ b. if b then f (j - at) else code_in 32 words j) (sym (chosen_from at rows j up))
              | inr l ↦ behind_part at n words part 0 fits long j l ∙ sym (own_code words stored j) ∙ rw (chosen_from at rows j up, none (j - at) (omega (arith, l))) refl
            ]
      ]

-- a part of the words is overwritten by codes
module _ (at n : ℕ) (words codes : List ℕ) (stored : All (IsStored 32) words) (fits : at + n ≤ length words) (long : length codes ≡ n)
    (small : (i : ℕ) → get_or codes i 0 < 2 ^ 32) where
  abbrev copied : List ℕ
  copied = put_mid at n words codes

  each_code : All (IsStored 32) codes
  each_code i d h = subst (IsStored 32) (get_or_default codes i 0 d h) (code_stored (get_or codes i 0) (small i))

  pub copied_stored : All (IsStored 32) copied
  copied_stored = part_stored 32 at n words codes fits long stored each_code

  pub copied_here : (i : ℕ) → i < length codes → code_in 32 copied (at + i) ≡ get_or codes i 0
  copied_here i h =
      own_code copied copied_stored (at + i)
      ∙ in_part at n words codes 0 fits long (at + i) (omega arith) (omega (arith, h, long))
      ∙ ap (λ m. get_or codes m 0) (omega arith)

  pub copied_behind : (j : ℕ) → (at ≤ j → at + length codes ≤ j) → code_in 32 copied j ≡ code_in 32 words j
  copied_behind j outside =
      own_code copied copied_stored j
      ∙ elim (cases_lt j at) [
        | inl l ↦ before_part at n words codes 0 fits long j l
        | inr up ↦ behind_part at n words codes 0 fits long j (omega (arith, outside up, long))
      ]
      ∙ sym (own_code words stored j)
