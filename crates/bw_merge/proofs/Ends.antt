-- The sum and the ends of two lists.
use Rattle.std.proofs.Common.{Bool, List, None, Option, Some, [], ap, arith, cond, false, int_le, length, refl, suc, sym, true, zero, ℤ}
use Rattle.std.proofs.Common.{◌-◌, ◌+ℤ◌, ◌++◌, ◌≡◌, ◌≤ℤ◌, ◌∙◌, ◌∷◌}
use Rattle.std.specs.Int.{int_max, int_min}
use Rattle.std.specs.List.{slice_get}
use Rattle.std.proofs.lemmas.Int.{clamps, ints}
use Rattle.bw_cells.specs.SetFunctions.{greatest, least, put_in, sorted, sum}
use Rattle.bw_merge.proofs.Ranked.{length-sorted}
use Rattle.bw_merge.proofs.Sorting.{AllFrom, Ascends, sorted-ascends}

-- where one is none the other, and else what the function makes of both
abbrev pub joined : (ℤ → ℤ → ℤ) → Option ℤ → Option ℤ → Option ℤ
joined f None other = other
joined f (Some x) None = Some x
joined f (Some x) (Some y) = Some (f x y)

joined-none : (f : ℤ → ℤ → ℤ) (a : Option ℤ) → joined f a None ≡ a
joined-none f None = refl
joined-none f (Some x) = refl

joined_assoc : (f : ℤ → ℤ → ℤ)
    → ((x y z : ℤ) → f (f x y) z ≡ f x (f y z))
    → (x : ℤ) (b c : Option ℤ) → joined f (Some x) (joined f b c) ≡ joined f (joined f (Some x) b) c
joined_assoc f assoc x None c = refl
joined_assoc f assoc x (Some y) None = refl
joined_assoc f assoc x (Some y) (Some z) = ap Some (sym (assoc x y z))

-- what is found by one value after the other is joined over lists
module _ (f : ℤ → ℤ → ℤ) (assoc : (x y z : ℤ) → f (f x y) z ≡ f x (f y z)) (of : List ℤ → Option ℤ) (none : of [] ≡ None)
    (more : (x : ℤ) (xs : List ℤ) → of (x ∷ xs) ≡ joined f (Some x) (of xs)) where
  pub of_both : (xs ys : List ℤ) → of (xs ++ ys) ≡ joined f (of xs) (of ys)
  of_both [] ys = ap (λ a. joined f a (of ys)) (sym none)
  of_both (x ∷ xs) ys =
      more x (xs ++ ys) ∙ ap (joined f (Some x)) (of_both xs ys) ∙ joined_assoc f assoc x (of xs) (of ys)
      ∙ ap (λ a. joined f a (of ys)) (sym (more x xs))

sum_more : (x : ℤ) (xs : List ℤ) → sum (x ∷ xs) ≡ joined ◌+ℤ◌ (Some x) (sum xs)
sum_more x [] = ap Some (omega (arith, ints))
sum_more x (y ∷ ys) = refl

pub sum_of_both : (xs ys : List ℤ) → sum (xs ++ ys) ≡ joined ◌+ℤ◌ (sum xs) (sum ys)
sum_of_both = of_both ◌+ℤ◌ (λ x y z. omega (arith, ints)) sum refl sum_more

put_least : (x : ℤ) (xs : List ℤ) → slice_get (put_in x xs) 0 ≡ joined int_min (Some x) (slice_get xs 0)
put_least x [] = refl
put_least x (y ∷ ys) = by (int_le x y) refl
  where
    by : (b : Bool) → int_le x y ≡ b → slice_get (cond b (x ∷ y ∷ ys) (y ∷ put_in x ys)) 0 ≡ Some (int_min x y)
    by true e = ap Some (grind (arith, ints, e))
    by false e = ap Some (grind (arith, ints, e))

pub least_of_both : (xs ys : List ℤ) → least (xs ++ ys) ≡ joined int_min (least xs) (least ys)
least_of_both = of_both int_min (λ x y z. omega (arith, ints, clamps)) least refl (λ x xs. put_least x (sorted xs))

-- the last entry
abbrev last : List ℤ → Option ℤ
last [] = None
last (x ∷ []) = Some x
last (x ∷ (y ∷ ys)) = last (y ∷ ys)

later : (x y : ℤ) (ys : List ℤ) → slice_get (x ∷ y ∷ ys) (length (x ∷ y ∷ ys) - 1) ≡ slice_get (y ∷ ys) (length (y ∷ ys) - 1)
later x y ys =
    let n = length ys in
    let a : suc (suc n) - 1 ≡ suc n = omega arith in
    let b : suc n - 1 ≡ n = omega arith in
    ap (slice_get (x ∷ y ∷ ys)) a ∙ ap (slice_get (y ∷ ys)) (sym b)

at_end : (xs : List ℤ) → slice_get xs (length xs - 1) ≡ last xs
at_end [] = refl
at_end (x ∷ []) = let n : suc zero - 1 ≡ zero = omega arith in ap (slice_get (x ∷ [])) n
at_end (x ∷ (y ∷ ys)) = later x y ys ∙ at_end (y ∷ ys)

-- the last entry of an ascending list is not below its first
max_last : (x y : ℤ) (ys : List ℤ) → x ≤ℤ y → AllFrom y ys → Ascends ys → joined int_max (Some x) (last (y ∷ ys)) ≡ last (y ∷ ys)
max_last x y [] h all a = ap Some (omega (arith, ints, clamps, h))
max_last x y (z ∷ zs) h all a = max_last x z zs (omega (arith, ints, h, all.0)) a.0 a.1

last_put : (x y : ℤ) (xs : List ℤ) → last (y ∷ put_in x xs) ≡ last (put_in x xs)
last_put x y [] = refl
last_put x y (z ∷ zs) = by (int_le x z)
  where
    by : (b : Bool) → last (y ∷ cond b (x ∷ z ∷ zs) (z ∷ put_in x zs)) ≡ last (cond b (x ∷ z ∷ zs) (z ∷ put_in x zs))
    by true = refl
    by false = refl

put_greatest : (x : ℤ) (xs : List ℤ) → Ascends xs → last (put_in x xs) ≡ joined int_max (Some x) (last xs)
put_greatest x [] a = refl
put_greatest x (y ∷ ys) a = by (int_le x y) refl (put_greatest x ys a.1)
  where
    after : (zs : List ℤ) → y ≤ℤ x → Ascends zs → last (put_in x zs) ≡ joined int_max (Some x) (last zs)
        → last (put_in x zs) ≡ joined int_max (Some x) (last (y ∷ zs))
    after [] h b rest = ap Some (omega (arith, ints, clamps, h))
    after (z ∷ zs) h b rest = rest

    by : (b : Bool) → int_le x y ≡ b → last (put_in x ys) ≡ joined int_max (Some x) (last ys)
        → last (cond b (x ∷ y ∷ ys) (y ∷ put_in x ys)) ≡ joined int_max (Some x) (last (y ∷ ys))
    by true e rest = let le : x ≤ℤ y = grind (arith, ints, e) in sym (max_last x y ys le a.0 a.1)
    by false e rest = let le : y ≤ℤ x = grind (arith, ints, e) in last_put x y ys ∙ after ys le a.1 rest

greatest_last : (xs : List ℤ) → greatest xs ≡ last (sorted xs)
greatest_last xs = ap (λ n. slice_get (sorted xs) (n - 1)) (sym (length-sorted xs)) ∙ at_end (sorted xs)

greatest_more : (x : ℤ) (xs : List ℤ) → greatest (x ∷ xs) ≡ joined int_max (Some x) (greatest xs)
greatest_more x xs = greatest_last (x ∷ xs) ∙ put_greatest x (sorted xs) (sorted-ascends xs)
    ∙ ap (joined int_max (Some x)) (sym (greatest_last xs))

pub greatest_of_both : (xs ys : List ℤ) → greatest (xs ++ ys) ≡ joined int_max (greatest xs) (greatest ys)
greatest_of_both = of_both int_max (λ x y z. omega (arith, ints, clamps)) greatest refl greatest_more
