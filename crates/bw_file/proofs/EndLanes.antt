-- The least and the greatest of words that are kept side by side, of which one takes a word more.
use Rattle.std.proofs.Common.{List, [], ap, arith, fold, length, refl, slice_index_or, slice_set, suc, zero, ℕ, ℤ, ◌<◌, ◌∷◌, ◌≡◌, ◌∙◌}
use Rattle.std.specs.Int.{int_max, int_min}
use Rattle.std.proofs.lemmas.Int.{clamps, ints}

-- what is taken first may be taken last
least_last : (start x : ℤ) (words : List ℤ) → fold int_min (int_min start x) words ≡ int_min (fold int_min start words) x
least_last start x [] = refl
least_last start x (word ∷ words) =
    let order : int_min (int_min start x) word ≡ int_min (int_min start word) x = omega (arith, ints, clamps) in
    ap (λ s. fold int_min s words) order ∙ least_last (int_min start word) x words

greatest_last : (start x : ℤ) (words : List ℤ) → fold int_max (int_max start x) words ≡ int_max (fold int_max start words) x
greatest_last start x [] = refl
greatest_last start x (word ∷ words) =
    let order : int_max (int_max start x) word ≡ int_max (int_max start word) x = omega (arith, ints, clamps) in
    ap (λ s. fold int_max s words) order ∙ greatest_last (int_max start word) x words

-- one of them takes a word more, and so do all
pub least_set : (start x d r : ℤ) (words : List ℤ) (j : ℕ) → j < length words → r ≡ int_min (slice_index_or words j d) x → fold int_min start (slice_set words j r) ≡ int_min (fold int_min start words) x
least_set start x d r [] j h is = absurd (omega (arith, h))
least_set start x d r (word ∷ words) zero h is =
    let order : int_min start r ≡ int_min (int_min start word) x = omega (arith, ints, clamps, is) in
    ap (λ s. fold int_min s words) order ∙ least_last (int_min start word) x words
least_set start x d r (word ∷ words) (suc j) h is = least_set (int_min start word) x d r words j (omega (arith, h)) is

pub greatest_set : (start x d r : ℤ) (words : List ℤ) (j : ℕ) → j < length words → r ≡ int_max (slice_index_or words j d) x → fold int_max start (slice_set words j r) ≡ int_max (fold int_max start words) x
greatest_set start x d r [] j h is = absurd (omega (arith, h))
greatest_set start x d r (word ∷ words) zero h is =
    let order : int_max start r ≡ int_max (int_max start word) x = omega (arith, ints, clamps, is) in
    ap (λ s. fold int_max s words) order ∙ greatest_last (int_max start word) x words
greatest_set start x d r (word ∷ words) (suc j) h is = greatest_set (int_max start word) x d r words j (omega (arith, h)) is
