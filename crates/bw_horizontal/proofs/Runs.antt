-- The codes of a run of rows, put into its words.
use Rattle.std.proofs.Common.{List, ap, arith, get_or, if◌then◌else◌, inl, inr, length, refl, subst, sym, ℕ, ◌%◌, ◌+◌, ◌-◌, ◌<◌, ◌==◌, ◌≡◌, ◌≢◌, ◌≤◌, ◌∙◌}
use Rattle.std.specs.List.{All}
use Rattle.std.proofs.lemmas.Bool.{cases_lt, eq-eqb, ne_eqb}
use Rattle.std.proofs.lemmas.List.{get_or_default}
use Rattle.bw_code.proofs.Parts.{before_part, behind_part, in_part}
use Rattle.bw_lane.specs.Sections.{IsStored, section_of}
use Rattle.bw_horizontal.specs.Words.{code_in, section_in, segment_rows, word_of}
use Rattle.bw_horizontal.proofs.Places.{apart, code_on, next_word, word_on}
use Rattle.bw_horizontal.proofs.Views.{stored_at}
use borrow.Rule.Slice.PartMut.{put_mid}

-- the words of a run are there, as the last is
pub run_there : (k row n size : ℕ) → k ≤ 32 → 1 ≤ n → n + row % segment_rows k % (k + 1) ≤ k + 1 → ((i : ℕ) → i < n → word_of k (row + i) < size) → word_of k row + n ≤ size
run_there k row n size narrow some run there =
    let last : row % segment_rows k % (k + 1) + (n - 1) < k + 1 = omega (arith, some, run) in
    omega (arith, word_on k row (n - 1) narrow last, there (n - 1) (omega (arith, some)), some)

-- stored words with a part overwritten by stored words
pub part_stored : (k first n : ℕ) (words part : List ℕ) → first + n ≤ length words → length part ≡ n → All (IsStored k) words → All (IsStored k) part → All (IsStored k) (put_mid first n words part)
part_stored k first n words part fits long stored anew i d h =
    subst (IsStored k) (get_or_default (put_mid first n words part) i 0 d h)
    (elim (cases_lt i first) [
      | inl l ↦ subst (IsStored k) (sym (before_part first n words part 0 fits long i l)) (stored_at k words stored i)
      | inr up ↦
          elim (cases_lt i (first + n)) [
            | inl l ↦ subst (IsStored k) (sym (in_part first n words part 0 fits long i up l)) (stored_at k part anew (i - first))
            | inr past ↦ subst (IsStored k) (sym (behind_part first n words part 0 fits long i past)) (stored_at k words stored i)
          ]
    ])

-- in each word of the run, section t is replaced: in word m by f m
module _ (k row n first t : ℕ) (words part : List ℕ) (f : ℕ → ℕ) (narrow : k ≤ 32) (run : n + row % segment_rows k % (k + 1) ≤ k + 1)
    (at : first ≡ word_of k row) (same : t ≡ section_in k row) (fits : first + n ≤ length words) (long : length part ≡ n)
    (each : (m : ℕ) → m < n → (u : ℕ) → section_of k u (get_or part m 0) ≡ (if u == t then f m else section_of k u (get_or words (first + m) 0))) where
  abbrev new : List ℕ
  new = put_mid first n words part

  low : (i : ℕ) → i < n → row % segment_rows k % (k + 1) + i < k + 1
  low i h = omega (arith, run, h)

  pub run_put : (i : ℕ) → i < n → code_in k new (row + i) ≡ f i
  run_put i h =
      code_on k row i narrow (low i h) new
      ∙ ap (λ s. section_of k s (get_or new (word_of k row + i) 0)) (sym same)
      ∙ ap (λ w. section_of k t (get_or new (w + i) 0)) (sym at)
      ∙ ap (section_of k t) (in_part first n words part 0 fits long (first + i) (omega arith) (omega (arith, h)))
      ∙ ap (λ m. section_of k t (get_or part m 0)) (omega arith)
      ∙ each i h t
      ∙ ap (λ b. if b then f i else section_of k t (get_or words (first + i) 0)) (eq-eqb t t refl)

  -- another row of such a word is in another section
  beside : (j m : ℕ) → (row ≤ j → row + n ≤ j) → m < n → word_of k j ≡ first + m → section_in k j ≢ t
  beside j m outside h here e =
      let word : word_of k j ≡ word_of k (row + m) = omega (arith, here, at, word_on k row m narrow (low m h)) in
      let one : j ≡ row + m = apart k j (row + m) narrow word (e ∙ same ∙ sym (next_word k row m narrow (low m h)).2) in
      omega (arith, one, h, outside (omega (arith, one)))

  pub run_other : (j : ℕ) → (row ≤ j → row + n ≤ j) → code_in k new j ≡ code_in k words j
  run_other j outside =
      let w = word_of k j in
      let s = section_in k j in
      elim (cases_lt w first) [
        | inl l ↦ ap (section_of k s) (before_part first n words part 0 fits long w l)
        | inr up ↦
            elim (cases_lt w (first + n)) [
              | inl l ↦
                  let m = w - first in
                  let here : w ≡ first + m = omega (arith, up) in
                  let inside : m < n = omega (arith, up, l) in
                  ap (section_of k s) (in_part first n words part 0 fits long w up l)
                  ∙ each m inside s
                  ∙ ap (λ b. if b then f m else section_of k s (get_or words (first + m) 0)) (ne_eqb s t (beside j m outside inside here))
                  ∙ ap (λ v. section_of k s (get_or words v 0)) (sym here)
              | inr past ↦ ap (section_of k s) (behind_part first n words part 0 fits long w past)
            ]
      ]
