-- What sorting keeps, and that it ascends.
use Rattle.std.proofs.Common.{Bool, List, [], arith, cond, false, int_le, refl, true, ℤ, ◌≡◌, ◌≤ℤ◌, ◌∷◌}
use Rattle.std.specs.List.Sorted.{IsPermutation}
use Rattle.std.proofs.lemmas.Int.{ints}
use Rattle.std.proofs.lemmas.List.Sorted.{IsPermutation-cons, IsPermutation-middle, IsPermutation-refl, IsPermutation-trans}
use Rattle.bw_cells.specs.SetFunctions.{put_in, sorted}

put-permutes : (x : ℤ) (xs : List ℤ) → IsPermutation (x ∷ xs) (put_in x xs)
put-permutes x [] = IsPermutation-refl (x ∷ [])
put-permutes x (y ∷ ys) = by (int_le x y) (put-permutes x ys)
  where
    by : (b : Bool) → IsPermutation (x ∷ ys) (put_in x ys) → IsPermutation (x ∷ y ∷ ys) (cond b (x ∷ y ∷ ys) (y ∷ put_in x ys))
    by true same = IsPermutation-refl (x ∷ y ∷ ys)
    by false same = IsPermutation-trans (x ∷ y ∷ ys) (y ∷ x ∷ ys) (y ∷ put_in x ys) (IsPermutation-middle (x ∷ []) y ys)
        (IsPermutation-cons y (x ∷ ys) (put_in x ys) same)

pub sorted-permutes : (xs : List ℤ) → IsPermutation xs (sorted xs)
sorted-permutes [] = IsPermutation-refl []
sorted-permutes (x ∷ xs) = IsPermutation-trans (x ∷ xs) (x ∷ sorted xs) (put_in x (sorted xs))
    (IsPermutation-cons x xs (sorted xs) (sorted-permutes xs)) (put-permutes x (sorted xs))

-- no entry is below x
abbrev pub AllFrom : ℤ → List ℤ → Type 0
AllFrom x [] = Unit {0}
AllFrom x (y ∷ ys) = (x ≤ℤ y) × AllFrom x ys

-- no entry is below one before it
abbrev pub Ascends : List ℤ → Type 0
Ascends [] = Unit {0}
Ascends (x ∷ xs) = AllFrom x xs × Ascends xs

from-lower : (w x : ℤ) (xs : List ℤ) → w ≤ℤ x → AllFrom x xs → AllFrom w xs
from-lower w x [] h all = tt
from-lower w x (y ∷ ys) h all = (omega (arith, ints, h, all.0), from-lower w x ys h all.1)

put-from : (w x : ℤ) (xs : List ℤ) → w ≤ℤ x → AllFrom w xs → AllFrom w (put_in x xs)
put-from w x [] h all = (h, tt)
put-from w x (y ∷ ys) h all = by (int_le x y) (put-from w x ys h all.1)
  where
    by : (b : Bool) → AllFrom w (put_in x ys) → AllFrom w (cond b (x ∷ y ∷ ys) (y ∷ put_in x ys))
    by true rest = (h, all)
    by false rest = (all.0, rest)

put-ascends : (x : ℤ) (xs : List ℤ) → Ascends xs → Ascends (put_in x xs)
put-ascends x [] a = (tt, tt)
put-ascends x (y ∷ ys) a = by (int_le x y) refl (put-ascends x ys a.1)
  where
    by : (b : Bool) → int_le x y ≡ b → Ascends (put_in x ys) → Ascends (cond b (x ∷ y ∷ ys) (y ∷ put_in x ys))
    by true e rest = let le : x ≤ℤ y = grind (arith, ints, e) in ((le, from-lower x y ys le a.0), a)
    by false e rest = let le : y ≤ℤ x = grind (arith, ints, e) in (put-from y x ys le a.0, rest)

pub sorted-ascends : (xs : List ℤ) → Ascends (sorted xs)
sorted-ascends [] = tt
sorted-ascends (x ∷ xs) = put-ascends x (sorted xs) (sorted-ascends xs)
