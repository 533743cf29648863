-- Lists of names in which no name stands twice.
use Rattle.std.proofs.Common.{◌≡◌, ℕ, ◌+◌, ◌<◌, Bool, true, false, ◌&&◌, not, List, [], ◌∷◌, ◌++◌, length, get_or, refl, sym, ap, ◌∙◌, take, drop, take-append-drop}
use Rattle.std.specs.List.{list_any}
use Rattle.std.specs.Str.{bytes_eq}
use Rattle.std.proofs.lemmas.Bool.{both_ways}
use Rattle.std.proofs.lemmas.List.{take_more}
use Rattle.bw_model.specs.Store.{are_distinct}
use Rattle.bw_model.proofs.Names.{are_distinct-push}
use Rattle.bw_model.proofs.OwnPlaces.{are_distinct_front}

not_both : (d e : Bool) → e ≡ true → (d && not e) ≡ false
not_both true true p = refl
not_both true false p = sym p
not_both false e p = refl

and_both : (d e : Bool) → d ≡ true → e ≡ false → (d && not e) ≡ true
and_both true true p q = sym q
and_both true false p q = refl
and_both false e p q = p

by_cases : (b : Bool) → (b ≡ true → b ≡ false) → b ≡ false
by_cases true f = f refl
by_cases false f = refl

module _ (names : List (List ℕ)) (i : ℕ) (x : List ℕ) (within : i < length names) (at : x ≡ get_or names i x) where
  pub one_more : take (i + 1) names ≡ take i names ++ x ∷ []
  one_more = take_more names i x within ∙ ap (λ y. take i names ++ y ∷ []) (sym at)

  -- a name that stands in front of its place stands twice
  pub twice_at : list_any (λ y. bytes_eq y x) (take i names) ≡ true → not (are_distinct names) ≡ true
  twice_at seen =
      let front : are_distinct (take (i + 1) names) ≡ false = ap are_distinct one_more ∙ are_distinct-push (take i names) x ∙ not_both _ _ seen in
      ap not (by_cases (are_distinct names)
      (λ e. absurd (both_ways (are_distinct (take (i + 1) names)) front (are_distinct_front (take (i + 1) names) (drop (i + 1) names) (ap are_distinct (take-append-drop (i + 1) names) ∙ e)))))

  -- one that doesn't leaves the names distinct
  pub once_to : are_distinct (take i names) ≡ true → list_any (λ y. bytes_eq y x) (take i names) ≡ false → are_distinct (take (i + 1) names) ≡ true
  once_to before unseen = ap are_distinct one_more ∙ are_distinct-push (take i names) x ∙ and_both _ _ before unseen

-- the names that a set has seen
