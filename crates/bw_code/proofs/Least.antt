-- Folds that give the least and the greatest of a list.
use Rattle.std.proofs.Common.{◌≡◌, ◌≤ℤ◌, ◌++◌, ◌∷◌, [], ℤ, arith, pos, sym, ◌<◌, List, length, get_or, subst, inl, inr, fold}
use Rattle.std.specs.List.{All, Contains}
use Rattle.std.specs.Int.{int_min, int_max}
use Rattle.std.proofs.lemmas.Int.{ints, fold-int_min_bounds, fold-int_min_reached, fold-int_max_bounds, fold-int_max_reached}
use Rattle.std.proofs.lemmas.List.Elements.{All-append, Contains-append_left, Contains-append_right, Contains-get_or}
use Rattle.bw_code.specs.Encodings.{IsLeast, IsGreatest}

pub least_is : (xs : List ℤ) → 0 < length xs → (r : ℤ) → r ≡ fold int_min (get_or xs 0 (pos 0)) xs → IsLeast xs r
least_is xs l r e = record {
  reached =
      elim (fold-int_min_reached (get_or xs 0 (pos 0)) xs r e) [
        | inl first ↦ subst (λ (x : ℤ). Contains xs x) (sym first) (Contains-get_or xs 0 (pos 0) l)
        | inr other ↦ other
      ];
  bound = (fold-int_min_bounds (get_or xs 0 (pos 0)) xs r e).1;
}

pub greatest_is : (xs : List ℤ) → 0 < length xs → (r : ℤ) → r ≡ fold int_max (get_or xs 0 (pos 0)) xs → IsGreatest xs r
greatest_is xs l r e = record {
  reached =
      elim (fold-int_max_reached (get_or xs 0 (pos 0)) xs r e) [
        | inl first ↦ subst (λ (x : ℤ). Contains xs x) (sym first) (Contains-get_or xs 0 (pos 0) l)
        | inr other ↦ other
      ];
  bound = (fold-int_max_bounds (get_or xs 0 (pos 0)) xs r e).1;
}
