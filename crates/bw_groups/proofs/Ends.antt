-- The least, the greatest and the middle of values, by their place in ascending order.
use Rattle.std.proofs.Common.{Bool, List, Some, [], arith, cond, count_by, false, get_or, int_le, length, refl, suc, true, zero, ℕ, ℤ, ◌++◌, ◌+◌, ◌-◌, ◌<◌, ◌≡◌, ◌<ℤ◌, ◌∙◌, ◌∷◌}
use Rattle.std.specs.Prelude.{int_lt, slice_get}
use Rattle.std.specs.List.Sorted.{IsPermutation}
use Rattle.std.specs.Cmp.{int_ranks}
use Rattle.std.specs.Ordering.{MatchOrdering, int_cmp, is_lt}
use Rattle.std.specs.declared.cmp.Ordering.{Ordering}
use Rattle.std.specs.declared.cmp.Ordering.TheVariants.{Less, Equal, Greater}
use Rattle.std.proofs.lemmas.Int.{ints}
use Rattle.std.proofs.lemmas.List.Sorted.{sum_by-IsPermutation}
use Rattle.std.proofs.lemmas.List.Sums.{count_by-le-length, sum_by-append}
use Rattle.bw_code.specs.Encodings.{IsGreatest, IsLeast}
use Rattle.bw_cells.specs.SetFunctions.{greatest, least, sorted}
use Rattle.bw_aggregate.proofs.Counting.{count_cons, count_no, count_yes}
use Rattle.bw_aggregate.proofs.Ranks.{ranked-sorted}

none_pass : (p : ℤ → Bool) (xs : List ℤ) → ((k : ℕ) (d : ℤ) → k < length xs → p (get_or xs k d) ≡ false) → count_by p xs ≡ 0
none_pass p [] h = refl
none_pass p (x ∷ xs) h = count_no p x xs (h 0 x (omega arith)) ∙ none_pass p xs (λ k d l. h (suc k) d (omega (arith, l)))

all_pass : (p : ℤ → Bool) (xs : List ℤ) → ((k : ℕ) (d : ℤ) → k < length xs → p (get_or xs k d) ≡ true) → count_by p xs ≡ length xs
all_pass p [] h = refl
all_pass p (x ∷ xs) h = let one = count_yes p x xs (h 0 x (omega arith)) in let rest = all_pass p xs (λ k d l. h (suc k) d (omega (arith, l))) in omega (arith, one, rest)

one_passes : (p : ℤ → Bool) (xs : List ℤ) (k : ℕ) (d : ℤ) → k < length xs → p (get_or xs k d) ≡ true → 0 < count_by p xs
one_passes p [] k d l h = absurd (omega (arith, l))
one_passes p (x ∷ xs) zero d l h = let one = count_yes p x xs h in omega (arith, one)
one_passes p (x ∷ xs) (suc k) d l h = let one = count_cons p x xs in let rest = one_passes p xs k d (omega (arith, l)) h in omega (arith, one, rest)

one_fails : (p : ℤ → Bool) (xs : List ℤ) (k : ℕ) (d : ℤ) → k < length xs → p (get_or xs k d) ≡ false → count_by p xs < length xs
one_fails p [] k d l h = absurd (omega (arith, l))
one_fails p (x ∷ xs) zero d l h = let one = count_no p x xs h in let rest = count_by-le-length p xs in omega (arith, one, rest)
one_fails p (x ∷ xs) (suc k) d l h = let one = count_cons p x xs in by (p x) one (one_fails p xs k d (omega (arith, l)) h)
  where
    by : (b : Bool) → count_by p (x ∷ xs) ≡ cond b 1 0 + count_by p xs → count_by p xs < length xs → count_by p (x ∷ xs) < length (x ∷ xs)
    by true one rest = omega (arith, one, rest)
    by false one rest = omega (arith, one, rest)

pub least_told : (xs : List ℤ) (v : ℤ) → IsLeast xs v → least xs ≡ Some v
least_told xs v is = ranked-sorted xs 0 v (record {
  below = let none = none_pass (λ x. int_lt x v) xs (λ k d l. let at = is.bound k d l in grind (arith, ints, at)) in omega (arith, none);
  upto = let at = is.reached.2 in one_passes (λ x. int_le x v) xs is.reached.0 v is.reached.1 (grind (arith, ints, at));
})

pub greatest_told : (xs : List ℤ) (v : ℤ) → IsGreatest xs v → greatest xs ≡ Some v
greatest_told xs v is = ranked-sorted xs (length xs - 1) v (record {
  below = let at = is.reached.2 in let some = one_fails (λ x. int_lt x v) xs is.reached.0 v is.reached.1 (grind (arith, ints, at)) in omega (arith, some);
  upto = let all = all_pass (λ x. int_le x v) xs (λ k d l. let at = is.bound k d l in grind (arith, ints, at)) in omega (arith, all, is.reached.1);
})

count_append : (p : ℤ → Bool) (xs ys : List ℤ) → count_by p (xs ++ ys) ≡ count_by p xs + count_by p ys
count_append p xs ys = sum_by-append (λ x. cond (p x) 1 0) xs ys

-- what stands between those not above it and those not below it
pub middle_told : (xs front back : List ℤ) (v : ℤ) → IsPermutation xs (front ++ v ∷ back) → ((k : ℕ) (d : ℤ) → k < length front → int_lt v (get_or front k d) ≡ false) → ((k : ℕ) (d : ℤ) → k < length back → int_lt (get_or back k d) v ≡ false)
    → slice_get (sorted xs) (length front) ≡ Some v
middle_told xs front back v moved low high =
    ranked-sorted xs (length front) v (record {
      below =
          let same = sum_by-IsPermutation (λ x. cond (int_lt x v) 1 0) xs (front ++ v ∷ back) moved in
          let parts = count_append (λ x. int_lt x v) front (v ∷ back) in
          let itself : int_lt v v ≡ false = grind (arith, ints) in
          let here = count_no (λ x. int_lt x v) v back itself in
          let none = none_pass (λ x. int_lt x v) back high in
          let most = count_by-le-length (λ x. int_lt x v) front in
          omega (arith, same, parts, here, none, most);
      upto =
          let same = sum_by-IsPermutation (λ x. cond (int_le x v) 1 0) xs (front ++ v ∷ back) moved in
          let parts = count_append (λ x. int_le x v) front (v ∷ back) in
          let itself : int_le v v ≡ true = grind (arith, ints) in
          let here = count_yes (λ x. int_le x v) v back itself in
          let all = all_pass (λ x. int_le x v) front (λ k d l. let at = low k d l in grind (arith, ints, at)) in
          omega (arith, same, parts, here, all);
    })

-- the order that sorting goes by
pub lower_is : (x y : ℤ) → int_lt x y ≡ is_lt (int_cmp x y)
lower_is x y = by (int_cmp x y) (int_ranks x y)
  where
    by : (o : Ordering) → MatchOrdering o (x <ℤ y) (x ≡ y) (y <ℤ x) → int_lt x y ≡ is_lt o
    by Less h = grind (arith, ints, h)
    by Equal h = grind (arith, ints, h)
    by Greater h = grind (arith, ints, h)
