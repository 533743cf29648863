-- Entry n of the sorted values is the one that has n values at most below it, and more than n not above it.
use Rattle.std.proofs.Common.{Bool, List, [], ap, arith, cond, count_by, false, length, refl, suc, sym, true, zero, ℕ, ℤ, ◌+◌, ◌<◌, ◌<ℤ◌, ◌≡◌, ◌≤◌, ◌≤ℤ◌, ◌∙◌, ◌∷◌, None, Some, int_le}
use Rattle.std.proofs.lemmas.Int.{by_lt_z, ints}
use Rattle.std.specs.Prelude.{int_lt, slice_get}
use Rattle.bw_cells.specs.SetFunctions.{put_in, sorted}
use Rattle.bw_aggregate.proofs.Counting.{count_cons, count_no, count_yes}

pub length-put_in : (x : ℤ) (xs : List ℤ) → length (put_in x xs) ≡ suc (length xs)
length-put_in x [] = refl
length-put_in x (y ∷ ys) = by (int_le x y) (length-put_in x ys)
  where
    by : (b : Bool) → length (put_in x ys) ≡ suc (length ys) → length (cond b (x ∷ y ∷ ys) (y ∷ put_in x ys)) ≡ suc (suc (length ys))
    by true h = refl
    by false h = ap suc h

pub length-sorted : (xs : List ℤ) → length (sorted xs) ≡ length xs
length-sorted [] = refl
length-sorted (x ∷ xs) = length-put_in x (sorted xs) ∙ ap suc (length-sorted xs)

count-put_in : (p : ℤ → Bool) (x : ℤ) (xs : List ℤ) → count_by p (put_in x xs) ≡ cond (p x) 1 0 + count_by p xs
count-put_in p x [] = count_cons p x []
count-put_in p x (y ∷ ys) = by (int_le x y) (count-put_in p x ys)
  where
    by : (b : Bool) → count_by p (put_in x ys) ≡ cond (p x) 1 0 + count_by p ys → count_by p (cond b (x ∷ y ∷ ys) (y ∷ put_in x ys)) ≡ cond (p x) 1 0 + count_by p (y ∷ ys)
    by true h = count_cons p x (y ∷ ys)
    by false h = omega (arith, count_cons p y (put_in x ys), count_cons p y ys)

-- sorting changes no count
pub count-sorted : (p : ℤ → Bool) (xs : List ℤ) → count_by p (sorted xs) ≡ count_by p xs
count-sorted p [] = refl
count-sorted p (x ∷ xs) = count-put_in p x (sorted xs) ∙ ap (λ n. cond (p x) 1 0 + n) (count-sorted p xs) ∙ sym (count_cons p x xs)

-- no entry of the list is below
abbrev AreFrom : ℤ → List ℤ → Type 0
AreFrom x [] = Unit {0}
AreFrom x (y ∷ ys) = (x ≤ℤ y) × AreFrom x ys

abbrev Ascends : List ℤ → Type 0
Ascends [] = Unit {0}
Ascends (x ∷ xs) = AreFrom x xs × Ascends xs

from-lower : (x y : ℤ) (ys : List ℤ) → x ≤ℤ y → AreFrom y ys → AreFrom x ys
from-lower x y [] h f = tt
from-lower x y (z ∷ zs) h f = (omega (arith, ints, h, f.0), from-lower x y zs h f.1)

put-from : (x y : ℤ) (ys : List ℤ) → x ≤ℤ y → AreFrom x ys → AreFrom x (put_in y ys)
put-from x y [] h f = (h, tt)
put-from x y (z ∷ zs) h f = by (int_le y z) (put-from x y zs h f.1)
  where
    by : (b : Bool) → AreFrom x (put_in y zs) → AreFrom x (cond b (y ∷ z ∷ zs) (z ∷ put_in y zs))
    by true rest = (h, f)
    by false rest = (f.0, rest)

put-ascends : (x : ℤ) (xs : List ℤ) → Ascends xs → Ascends (put_in x xs)
put-ascends x [] a = (tt, tt)
put-ascends x (y ∷ ys) a = by (int_le x y) refl (put-ascends x ys a.1)
  where
    by : (b : Bool) → int_le x y ≡ b → Ascends (put_in x ys) → Ascends (cond b (x ∷ y ∷ ys) (y ∷ put_in x ys))
    by true e rest = let h : x ≤ℤ y = grind (arith, ints, e) in ((h, from-lower x y ys h a.0), a)
    by false e rest = let h : y ≤ℤ x = grind (arith, ints, e) in (put-from y x ys h a.0, rest)

sorted-ascends : (xs : List ℤ) → Ascends (sorted xs)
sorted-ascends [] = tt
sorted-ascends (x ∷ xs) = put-ascends x (sorted xs) (sorted-ascends xs)

-- n at most are below, and more than n are not above
pub record IsRanked (xs : List ℤ) (n : ℕ) (v : ℤ) : Type 0 where
  pub below : count_by (λ x. int_lt x v) xs ≤ n
  pub upto : n < count_by (λ x. int_le x v) xs

none-below : (v x : ℤ) (xs : List ℤ) → AreFrom x xs → v ≤ℤ x → count_by (λ y. int_lt y v) xs ≡ 0
none-below v x [] f h = refl
none-below v x (y ∷ ys) f h =
    let rest = none-below v x ys f.1 h in
    let not_it : int_lt y v ≡ false = grind (arith, ints, h, f.0) in
    count_no (λ z. int_lt z v) y ys not_it ∙ rest

none-upto : (v x : ℤ) (xs : List ℤ) → AreFrom x xs → v <ℤ x → count_by (λ y. int_le y v) xs ≡ 0
none-upto v x [] f h = refl
none-upto v x (y ∷ ys) f h =
    let rest = none-upto v x ys f.1 h in
    let not_it : int_le y v ≡ false = grind (arith, ints, h, f.0) in
    count_no (λ z. int_le z v) y ys not_it ∙ rest

first-ranked : (x v : ℤ) (xs : List ℤ) → AreFrom x xs → IsRanked (x ∷ xs) 0 v → x ≡ v
first-ranked x v xs from r =
    by_lt_z x v
    (λ less. let test : int_lt x v ≡ true = grind (arith, ints, less) in absurd (omega (arith, r.below, count_yes (λ y. int_lt y v) x xs test)))
    (λ more. by_lt_z v x
    (λ above. let test : int_le x v ≡ false = grind (arith, ints, above) in absurd (omega (arith, r.upto, count_no (λ y. int_le y v) x xs test, none-upto v x xs from above)))
    (λ same. omega (arith, ints, more, same)))

rest-ranked : (x v : ℤ) (n : ℕ) (xs : List ℤ) → AreFrom x xs → IsRanked (x ∷ xs) (suc n) v → IsRanked xs n v
rest-ranked x v n xs from r =
    record {
      below =
          by_lt_z x v
          (λ less. let test : int_lt x v ≡ true = grind (arith, ints, less) in omega (arith, r.below, count_yes (λ y. int_lt y v) x xs test))
          (λ more. omega (arith, none-below v x xs from more));
      upto =
          by_lt_z v x
          (λ above. let test : int_le x v ≡ false = grind (arith, ints, above) in absurd (omega (arith, r.upto, count_no (λ y. int_le y v) x xs test, none-upto v x xs from above)))
          (λ within. let test : int_le x v ≡ true = grind (arith, ints, within) in omega (arith, r.upto, count_yes (λ y. int_le y v) x xs test));
    }

ranked-ascending : (xs : List ℤ) (n : ℕ) (v : ℤ) → Ascends xs → IsRanked xs n v → slice_get xs n ≡ Some v
ranked-ascending [] n v a r = absurd (omega (arith, r.upto))
ranked-ascending (x ∷ xs) zero v a r = ap Some (first-ranked x v xs a.0 r)
ranked-ascending (x ∷ xs) (suc n) v a r = ranked-ascending xs n v a.1 (rest-ranked x v n xs a.0 r)

-- so it is entry n of the sorted values
pub ranked-sorted : (xs : List ℤ) (n : ℕ) (v : ℤ) → IsRanked xs n v → slice_get (sorted xs) n ≡ Some v
ranked-sorted xs n v r =
    ranked-ascending (sorted xs) n v (sorted-ascends xs) (record {
      below = omega (arith, r.below, count-sorted (λ x. int_lt x v) xs);
      upto = omega (arith, r.upto, count-sorted (λ x. int_le x v) xs);
    })

past : (xs : List ℤ) (n : ℕ) → length xs ≤ n → slice_get xs n ≡ None
past [] n h = refl
past (x ∷ xs) zero h = absurd (omega (arith, h))
past (x ∷ xs) (suc n) h = past xs n (omega (arith, h))
