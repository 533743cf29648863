-- Words and their spellings.
use Rattle.std.proofs.Common.{◌≡◌, ℕ, ◌==◌, ◌&&◌, List, [], ◌∷◌, length, map, refl, ap, arith}
use Rattle.std.specs.List.{list_all, zip}
use Rattle.std.specs.Str.{bytes_eq}

-- lists of one length are equal where their pairs are
pub all_pairs : (f : ℕ → ℕ) (xs ys : List ℕ) → length xs ≡ length ys → list_all (λ (p : ℕ × ℕ). f p.0 == p.1) (zip xs ys) ≡ bytes_eq (map f xs) ys
all_pairs f [] [] e = refl
all_pairs f [] (y ∷ ys) e = absurd (omega arith)
all_pairs f (x ∷ xs) [] e = absurd (omega arith)
all_pairs f (x ∷ xs) (y ∷ ys) e = ap (λ b. (f x == y) && b) (all_pairs f xs ys (omega arith))
