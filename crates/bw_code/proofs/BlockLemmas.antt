-- Rows put 64 at a time.
use Rattle.std.proofs.Common.{Bool, List, not, refl, true, ◌&&◌, ◌||◌, ap, drop, get_or, length, take, arith, inl, inr, sym, ℕ, ◌+◌, ◌-◌, ◌<◌, ◌≡◌, ◌≤◌, ◌∙◌, false}
use Rattle.std.proofs.lemmas.Bool.{cases_lt}
use Rattle.std.proofs.lemmas.List.{get_or-drop, length-drop, take_all}
use Rattle.bw_mask.specs.Masks.{bit_of}

-- the rows `at`, `at + 1`, .. of n were put, and those before were there
module _ (wanted old new : ℕ → Bool) (at n word : ℕ) (before : (r : ℕ) → r < at → old r ≡ wanted r)
    (inside : (i : ℕ) → i < 64 → at + i < n → new (at + i) ≡ bit_of word i) (outside : (j : ℕ) → (at ≤ j → at + 64 ≤ j) → new j ≡ old j)
    (found : (i : ℕ) → i < 64 → at + i < n → bit_of word i ≡ wanted (at + i)) where
  pub rows_more : (r : ℕ) → r < at + 64 → r < n → new r ≡ wanted r
  rows_more r h l =
      elim (cases_lt r at) [
        | inl p ↦ outside r (λ (q : at ≤ r). omega arith) ∙ before r p
        | inr p ↦
            let place : at + (r - at) ≡ r = omega arith in
            ap new (sym place) ∙ inside (r - at) (omega arith) (omega arith) ∙ found (r - at) (omega arith) (omega arith) ∙ ap wanted place
      ]

  pub rows_whole : n ≤ at + 64 → ((r : ℕ) → n ≤ r → new r ≡ false) → ((r : ℕ) → n ≤ r → wanted r ≡ false) → (r : ℕ) → new r ≡ wanted r
  rows_whole long none nothing r =
      elim (cases_lt r n) [
        | inl h ↦ rows_more r (omega arith) h
        | inr h ↦ none r h ∙ sym (nothing r h)
      ]

-- what `&codes[at..]` has at a place
pub rest_at : (codes : List ℕ) (at i : ℕ) → get_or (take (length codes - at) (drop at codes)) i 0 ≡ get_or codes (at + i) 0
rest_at codes at i = ap (λ xs. get_or xs i 0) (take_all (length codes - at) (drop at codes) (omega (arith, length-drop at codes))) ∙ get_or-drop at codes i 0

-- the rows that were in, and then in the need mask, and then not
pub none_needed : (old need : Bool) → ((old && need) && not need) ≡ (need && false)
none_needed true true = refl
none_needed true false = refl
none_needed false true = refl
none_needed false false = refl

pub all_needed : (old need : Bool) → ((old || need) && need) ≡ (need && true)
all_needed true true = refl
all_needed true false = refl
all_needed false true = refl
all_needed false false = refl
