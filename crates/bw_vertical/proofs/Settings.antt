-- Rows of planes, by their words.
use Rattle.std.proofs.Common.{Bool, List, ap, arith, inl, inr, subst, sym, ℕ, ◌%◌, ◌*◌, ◌+◌, ◌/◌, ◌<◌, ◌≡◌, ◌∙◌, ◌⊎◌}
use mathlib.Core.Logic.{◌≢◌}
use Rattle.std.proofs.lemmas.Bool.{cases_eq}
use Rattle.bw_mask.specs.Masks.{bit_of}
use Rattle.bw_vertical.specs.Storage.{HasSegment, is_set, word_of}

pub word_there : (k j : ℕ) (gs : List (List (List ℕ))) → HasSegment k gs (j / 256) → HasSegment k gs (j / 64 / 4)
word_there k j gs there = let same : j / 256 ≡ j / 64 / 4 = omega arith in subst (HasSegment k gs) same there

-- bit j % 64 of word j / 64 of plane i changes
module _
    (k i j word : ℕ) (bit : Bool) (old new : List (List (List ℕ)))
    (same : word_of k new i (j / 64) ≡ word)
    (other : (p v : ℕ) → p < k → (p ≢ i) ⊎ (v ≢ j / 64) → word_of k new p v ≡ word_of k old p v)
    (here : bit_of word (j % 64) ≡ bit)
    (away : (s : ℕ) → s < 64 → s ≢ j % 64 → bit_of word s ≡ bit_of (word_of k old i (j / 64)) s)
  where
    pub set_same : is_set k new i j ≡ bit
    set_same = ap (λ w. bit_of w (j % 64)) same ∙ here

    pub set_other : (p r : ℕ) → p < k → (p ≢ i) ⊎ (r ≢ j) → is_set k new p r ≡ is_set k old p r
    set_other p r low far =
        elim (cases_eq p i) [
          | inl e ↦
              elim (cases_eq (r / 64) (j / 64)) [
                | inl f ↦
                    let d : r ≢ j = elim far [ inl q ↦ absurd (q e) | inr q ↦ q ] in
                    let within : r % 64 ≢ j % 64 = λ q. d (omega (arith, f, q)) in
                    ap (λ q. bit_of (word_of k new q (r / 64)) (r % 64)) e
                    ∙ ap (λ v. bit_of (word_of k new i v) (r % 64)) f
                    ∙ ap (λ w. bit_of w (r % 64)) same
                    ∙ away (r % 64) (omega arith) within
                    ∙ ap (λ v. bit_of (word_of k old i v) (r % 64)) (sym f)
                    ∙ ap (λ q. bit_of (word_of k old q (r / 64)) (r % 64)) (sym e)
                | inr f ↦ ap (λ w. bit_of w (r % 64)) (other p (r / 64) low (inr f))
              ]
          | inr d ↦ ap (λ w. bit_of w (r % 64)) (other p (r / 64) low (inl d))
        ]

-- row r of word w
pub word_row : (k i w r : ℕ) (gs : List (List (List ℕ))) → r < 64 → is_set k gs i (64 * w + r) ≡ bit_of (word_of k gs i w) r
word_row k i w r gs h =
    let word : (64 * w + r) / 64 ≡ w = omega (arith, h) in
    let bit : (64 * w + r) % 64 ≡ r = omega (arith, h) in
    ap (λ v. bit_of (word_of k gs i v) ((64 * w + r) % 64)) word ∙ ap (bit_of (word_of k gs i w)) bit
