-- What is kept of values, one value further.
use Rattle.std.proofs.Common.{All, List, None, Option, Some, [], ap, append-nil, arith, get_or, length, take, ℕ, ℤ, ◌++◌, ◌+◌, ◌<◌, ◌∙◌, ◌∷◌, ◌≡◌, ◌≤ℤ◌, filter_map}
use Rattle.std.specs.List.{cons_option}
use Rattle.std.proofs.lemmas.Int.{ints}
use Rattle.std.proofs.lemmas.List.{take_more}
use Rattle.std.proofs.lemmas.List.Elements.{filter_map-append}

module _ {B : Type 0} (h : Option ℤ → Option B) (values : List (Option ℤ)) (i : ℕ) (l : i < length values) where
  kept_next : filter_map h (take (i + 1) values) ≡ filter_map h (take i values) ++ filter_map h (get_or values i None ∷ [])
  kept_next = ap (filter_map h) (take_more values i None l) ∙ filter_map-append h (take i values) (get_or values i None ∷ [])

  pub kept_more : (y : B) → h (get_or values i None) ≡ Some y → filter_map h (take (i + 1) values) ≡ filter_map h (take i values) ++ y ∷ []
  kept_more y is = kept_next ∙ ap (λ o. filter_map h (take i values) ++ cons_option o []) is

  pub kept_same : h (get_or values i None) ≡ None → filter_map h (take (i + 1) values) ≡ filter_map h (take i values)
  kept_same is = kept_next ∙ ap (λ o. filter_map h (take i values) ++ cons_option o []) is ∙ append-nil (filter_map h (take i values))

-- other bounds
pub from_below : (a b : ℤ) (xs : List ℤ) → b ≤ℤ a → All (λ x. a ≤ℤ x) xs → All (λ x. b ≤ℤ x) xs
from_below a b xs le all k d h = let at = all k d h in omega (arith, ints, le, at)

pub from_above : (a b : ℤ) (xs : List ℤ) → a ≤ℤ b → All (λ x. x ≤ℤ a) xs → All (λ x. x ≤ℤ b) xs
from_above a b xs le all k d h = let at = all k d h in omega (arith, ints, le, at)
