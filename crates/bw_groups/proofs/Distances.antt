-- Distances from a base that no value is below tell the values.
use Rattle.std.proofs.Common.{All, List, None, Option, Some, [], arith, filter_map, map, option_map, pos, refl, ℤ, ◌+ℤ◌, ◌-ℤ◌, ◌∷◌, ◌≡◌, ◌≤ℤ◌, unsigned_abs}
use Rattle.std.proofs.lemmas.Int.{ints}
use Rattle.std.proofs.lemmas.List.Elements.{All-head, All-tail}
use Rattle.bw_cells.specs.SetFunctions.{known}

pub known_again : (base : ℤ) (values : List (Option ℤ)) → All (λ x. base ≤ℤ x) (known values)
    → map (λ n. base +ℤ pos n) (filter_map (λ value. option_map (λ x. unsigned_abs (x -ℤ base)) value) values) ≡ known values
known_again base [] all = refl
known_again base (None ∷ values) all = known_again base values all
known_again base (Some x ∷ values) all = first (All-head (λ y. base ≤ℤ y) x (known values) all) (known_again base values (All-tail (λ y. base ≤ℤ y) x (known values) all))
  where
    at : base ≤ℤ x → base +ℤ pos (unsigned_abs (x -ℤ base)) ≡ x
    at le = omega (arith, ints, le)

    first : base ≤ℤ x → map (λ n. base +ℤ pos n) (filter_map (λ value. option_map (λ y. unsigned_abs (y -ℤ base)) value) values) ≡ known values
        → (base +ℤ pos (unsigned_abs (x -ℤ base))) ∷ map (λ n. base +ℤ pos n) (filter_map (λ value. option_map (λ y. unsigned_abs (y -ℤ base)) value) values) ≡ x ∷ known values
    first le rest = rw (at le, rest) refl
