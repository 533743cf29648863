-- The entry of a rank by counts.
use Rattle.std.proofs.Common.{Bool, List, Some, [], ap, arith, cond, false, get_or, int_le, int_lt, length, length-append, pos, refl}
use Rattle.std.proofs.Common.{suc, sym, subst, true, zero, ℕ, ℤ, ◌&&◌, ◌+◌, ◌-◌, ◌/◌, ◌++◌, ◌≡◌, ◌<◌, ◌≤◌, ◌<ℤ◌, ◌≤ℤ◌, ◌∙◌, ◌∷◌}
use Rattle.std.specs.Int.{int_max, int_min}
use Rattle.std.specs.List.{Contains, filter, slice_get}
use Rattle.std.proofs.lemmas.Int.{by_lt_z, clamps, ints}
use Rattle.std.proofs.lemmas.List.Sorted.{Contains-permutation, IsPermutation-sym, length_permutation, sum_by-IsPermutation}
use Rattle.std.proofs.lemmas.List.Sums.{count_by-le-length, sum_by-append, sum_by-cons, sum_by-le-sum_by}
use Rattle.std.proofs.lemmas.Option.{get_or_from_slice_get, slice_get-get_or, slice_get_within}
use Rattle.bw_cells.specs.SetFunctions.{sorted}
use Rattle.bw_merge.specs.RankLaws.{BelowAddsUp, CountsGiveMedian, EntriesHaveRanks, MedianIsBetween, MedianIsByCounts, MedianIsOne}
use Rattle.bw_merge.specs.RankLaws.{MedianIsThere}
use Rattle.bw_merge.specs.RankLaws.{RankIsHeld, RankIsInside, RanksAreOfOne, RanksHaveEntries, UpToAddsUp}
use Rattle.bw_merge.specs.Ranks.{HasRank, IsMedian, below, inside, up_to}
use Rattle.bw_merge.proofs.Sorting.{AllFrom, Ascends, sorted-ascends, sorted-permutes}

abbrev one_if : Bool → ℕ
one_if b = cond b 1 0

up_to-cons : (v x : ℤ) (xs : List ℤ) → up_to v (x ∷ xs) ≡ one_if (int_le x v) + up_to v xs
up_to-cons v x xs = sum_by-cons (λ y. one_if (int_le y v)) x xs

pub up_to-append : UpToAddsUp
up_to-append v xs ys = sum_by-append (λ y. one_if (int_le y v)) xs ys

up_to-sorted : (v : ℤ) (xs : List ℤ) → up_to v (sorted xs) ≡ up_to v xs
up_to-sorted v xs = sum_by-IsPermutation (λ y. one_if (int_le y v)) xs (sorted xs) (sorted-permutes xs)

pub length-sorted : (xs : List ℤ) → length (sorted xs) ≡ length xs
length-sorted xs = length_permutation xs (sorted xs) (sorted-permutes xs)

-- in an ascending list
counted : (x v : ℤ) → x ≤ℤ v → one_if (int_le x v) ≡ 1
counted x v h = grind (arith, ints, h)

not_counted : (x v : ℤ) → v <ℤ x → one_if (int_le x v) ≡ 0
not_counted x v h = grind (arith, ints, h)

at_most_one : (x v : ℤ) → one_if (int_le x v) ≤ 1
at_most_one x v = by (int_le x v)
  where
    by : (b : Bool) → one_if b ≤ 1
    by true = omega arith
    by false = omega arith

none_up_to : (u x : ℤ) (xs : List ℤ) → u <ℤ x → AllFrom x xs → up_to u xs ≡ 0
none_up_to u x [] h all = refl
none_up_to u x (y ∷ ys) h all =
    let here = not_counted y u (omega (arith, ints, h, all.0)) in
    let rest = none_up_to u x ys h all.1 in
    let more = up_to-cons u y ys in
    omega (arith, here, rest, more)

entry_from : (x v : ℤ) (xs : List ℤ) (k : ℕ) → AllFrom x xs → slice_get xs k ≡ Some v → x ≤ℤ v
entry_from x v [] k all e = absurd cc
entry_from x v (y ∷ ys) zero all e = let is : y ≡ v = cc in subst (λ (z : ℤ). x ≤ℤ z) is all.0
entry_from x v (y ∷ ys) (suc k) all e = entry_from x v ys k all.1 e

entry_reached : (xs : List ℤ) (k : ℕ) (v : ℤ) → Ascends xs → slice_get xs k ≡ Some v → k + 1 ≤ up_to v xs
entry_reached [] k v a e = absurd cc
entry_reached (x ∷ xs) zero v a e =
    let is : x ≡ v = cc in
    let here = counted x v (omega (arith, ints, is)) in
    let more = up_to-cons v x xs in
    omega (arith, here, more)
entry_reached (x ∷ xs) (suc k) v a e =
    let here = counted x v (entry_from x v xs k a.0 e) in
    let rest = entry_reached xs k v a.1 e in
    let more = up_to-cons v x xs in
    omega (arith, here, rest, more)

entry_least : (xs : List ℤ) (k : ℕ) (u v : ℤ) → Ascends xs → slice_get xs k ≡ Some v → u <ℤ v → up_to u xs ≤ k
entry_least [] k u v a e h = absurd cc
entry_least (x ∷ xs) zero u v a e h =
    let is : x ≡ v = cc in
    let low : u <ℤ x = subst (λ (z : ℤ). u <ℤ z) (sym is) h in
    let here = not_counted x u low in
    let rest = none_up_to u x xs low a.0 in
    let more = up_to-cons u x xs in
    omega (arith, here, rest, more)
entry_least (x ∷ xs) (suc k) u v a e h =
    let here = at_most_one x u in
    let rest = entry_least xs k u v a.1 e h in
    let more = up_to-cons u x xs in
    omega (arith, here, rest, more)

-- an entry of the sorted values has its rank
pub entry_has_rank : EntriesHaveRanks
entry_has_rank values k v e = record {
  there = Contains-permutation (sorted values) values v (IsPermutation-sym values (sorted values) (sorted-permutes values))
      (k, slice_get_within (sorted values) k v e, get_or_from_slice_get (sorted values) k v v e);
  reached = let h = entry_reached (sorted values) k v (sorted-ascends values) e in let same = up_to-sorted v values in
      omega (arith, h, same);
  least = λ u low. let h = entry_least (sorted values) k u v (sorted-ascends values) e low in let same = up_to-sorted u values in
      omega (arith, h, same);
}

not_less : (values : List ℤ) (rank : ℕ) (v w : ℤ) → HasRank values rank v → HasRank values rank w → w ≤ℤ v
not_less values rank v w a b =
    by_lt_z v w (λ less. let few = b.least v less in let many = a.reached in absurd (omega (arith, few, many))) (λ h. h)

-- one value at most has a rank
pub one_of_rank : RanksAreOfOne
one_of_rank values rank v w a b =
    let low = not_less values rank v w a b in
    let high = not_less values rank w v b a in
    omega (arith, ints, low, high)

-- and it is the entry
pub rank_has_entry : RanksHaveEntries
rank_has_entry values k v has =
    let few = count_by-le-length (λ x. int_le x v) values in
    let within : k < length (sorted values) = omega (arith, few, has.reached, length-sorted values) in
    let w = get_or (sorted values) k v in
    let is = slice_get-get_or (sorted values) k v within in
    is ∙ ap Some (one_of_rank values (k + 1) w v (entry_has_rank values k w is) has)

-- the rank of the median
median_rank : (n : ℕ) → 0 < n → (n - 1) / 2 + 1 ≡ (n + 1) / 2
median_rank n some = omega (arith, some)

some_there : (values : List ℤ) (v : ℤ) → Contains values v → 0 < length values
some_there values v there = omega (arith, there.1)

pub is_median : MedianIsByCounts
is_median values v e =
    let has = entry_has_rank values ((length values - 1) / 2) v e in
    subst (λ (r : ℕ). HasRank values r v) (median_rank (length values) (some_there values v has.there)) has

pub only_median : CountsGiveMedian
only_median values v is =
    rank_has_entry values ((length values - 1) / 2) v
    (subst (λ (r : ℕ). HasRank values r v) (sym (median_rank (length values) (some_there values v is.there))) is)

pub one_median : MedianIsOne
one_median values v w is other = one_of_rank values ((length values + 1) / 2) v w is other

-- values that aren't empty have a median
pub some_median : MedianIsThere
some_median values some =
    let k = (length values - 1) / 2 in
    let within : k < length (sorted values) = omega (arith, some, length-sorted values) in
    let v = get_or (sorted values) k (pos 0) in
    (v, is_median values v (slice_get-get_or (sorted values) k (pos 0) within))

-- the median of two lists lies between those of each
median_low : (xs ys : List ℤ) (a b m : ℤ) → IsMedian xs a → IsMedian ys b → IsMedian (xs ++ ys) m → int_min a b ≤ℤ m
median_low xs ys a b m first second both =
    by_lt_z m (int_min a b)
    (λ less.
    let one : m <ℤ a = omega (arith, ints, clamps, less) in
    let two : m <ℤ b = omega (arith, ints, clamps, less) in
    let few = first.least m one in
    let fewer = second.least m two in
    let many = both.reached in
    let sum = up_to-append m xs ys in
    let size = length-append xs ys in
    absurd (omega (arith, few, fewer, many, sum, size)))
    (λ h. h)

up_to-le : (u v : ℤ) (xs : List ℤ) → u ≤ℤ v → up_to u xs ≤ up_to v xs
up_to-le u v xs h = sum_by-le-sum_by (λ x. one_if (int_le x u)) (λ x. one_if (int_le x v)) xs (λ x. by x (int_le x u) refl)
  where
    by : (x : ℤ) (b : Bool) → int_le x u ≡ b → one_if b ≤ one_if (int_le x v)
    by x true e = let le : x ≤ℤ u = grind (arith, ints, e) in let there = counted x v (omega (arith, ints, le, h)) in omega (arith, there)
    by x false e = omega arith

median_high : (xs ys : List ℤ) (a b m : ℤ) → IsMedian xs a → IsMedian ys b → IsMedian (xs ++ ys) m → m ≤ℤ int_max a b
median_high xs ys a b m first second both =
    let top = int_max a b in
    let one : a ≤ℤ top = omega (arith, ints, clamps) in
    let two : b ≤ℤ top = omega (arith, ints, clamps) in
    by_lt_z top m
    (λ less.
    let few = both.least top less in
    let many = first.reached in
    let more = second.reached in
    let up = up_to-le a top xs one in
    let upper = up_to-le b top ys two in
    let sum = up_to-append top xs ys in
    let size = length-append xs ys in
    absurd (omega (arith, few, many, more, up, upper, sum, size)))
    (λ h. h)

pub median_between : MedianIsBetween
median_between values more a b m first second both =
    (median_low values more a b m first second both, median_high values more a b m first second both)

-- a range that holds the value of a rank

pub below-append : BelowAddsUp
below-append v xs ys = sum_by-append (λ y. one_if (int_lt y v)) xs ys

up_to-below : (u v : ℤ) (xs : List ℤ) → u <ℤ v → up_to u xs ≤ below v xs
up_to-below u v xs h = sum_by-le-sum_by (λ x. one_if (int_le x u)) (λ x. one_if (int_lt x v)) xs (λ x. by x (int_le x u) refl)
  where
    less_counted : (x : ℤ) → x <ℤ v → one_if (int_lt x v) ≡ 1
    less_counted x l = grind (arith, ints, l)

    by : (x : ℤ) (b : Bool) → int_le x u ≡ b → one_if b ≤ one_if (int_lt x v)
    by x true e = let le : x ≤ℤ u = grind (arith, ints, e) in let there = less_counted x (omega (arith, ints, le, h)) in
        omega (arith, there)
    by x false e = omega arith

rank_not_below : (values : List ℤ) (rank : ℕ) (v low : ℤ) → HasRank values rank v → below low values < rank → low ≤ℤ v
rank_not_below values rank v low has few =
    by_lt_z v low (λ less. let h = up_to-below v low values less in let many = has.reached in absurd (omega (arith, h, many, few))) (λ h. h)

rank_not_above : (values : List ℤ) (rank : ℕ) (v high : ℤ) → HasRank values rank v → rank ≤ up_to high values → v ≤ℤ high
rank_not_above values rank v high has many =
    by_lt_z high v (λ less. let few = has.least high less in absurd (omega (arith, many, few))) (λ h. h)

below-cons : (v x : ℤ) (xs : List ℤ) → below v (x ∷ xs) ≡ one_if (int_lt x v) + below v xs
below-cons v x xs = sum_by-cons (λ y. one_if (int_lt y v)) x xs

abbrev is_inside : ℤ → ℤ → ℤ → Bool
is_inside low high x = int_le low x && int_le x high

kept : (u x : ℤ) (rest : List ℤ) (b : Bool) → up_to u (cond b (x ∷ rest) rest) ≡ cond b (one_if (int_le x u)) 0 + up_to u rest
kept u x rest true = up_to-cons u x rest
kept u x rest false = omega arith

inside_one : (low high u x : ℤ) → low ≤ℤ u → u ≤ℤ high → one_if (int_le x u)
    ≡ one_if (int_lt x low) + cond (is_inside low high x) (one_if (int_le x u)) 0
inside_one low high u x above under = grind (arith, ints, above, under)

up_to-inside : (low high u : ℤ) (xs : List ℤ) → low ≤ℤ u → u ≤ℤ high → up_to u xs ≡ below low xs + up_to u (inside low high xs)
up_to-inside low high u [] above under = refl
up_to-inside low high u (x ∷ xs) above under =
    let rest = up_to-inside low high u xs above under in
    let a = up_to-cons u x xs in
    let b = below-cons low x xs in
    let c = kept u x (inside low high xs) (is_inside low high x) in
    let d = inside_one low high u x above under in
    omega (arith, rest, a, b, c, d)

none_one : (low high u x : ℤ) → u <ℤ low → cond (is_inside low high x) (one_if (int_le x u)) 0 ≡ 0
none_one low high u x under = grind (arith, ints, under)

none_inside : (low high u : ℤ) (xs : List ℤ) → u <ℤ low → up_to u (inside low high xs) ≡ 0
none_inside low high u [] under = refl
none_inside low high u (x ∷ xs) under =
    let rest = none_inside low high u xs under in
    let c = kept u x (inside low high xs) (is_inside low high x) in
    let d = none_one low high u x under in
    omega (arith, rest, c, d)

contains_kept : (p : ℤ → Bool) (xs : List ℤ) (v : ℤ) (k : ℕ) → k < length xs → get_or xs k v ≡ v → p v ≡ true → Contains (filter p xs) v
contains_kept p [] v k low at passes = absurd (omega (arith, low))
contains_kept p (x ∷ xs) v zero low at passes = by (p x) (ap p at ∙ passes)
  where
    by : (b : Bool) → b ≡ true → Contains (cond b (x ∷ filter p xs) (filter p xs)) v
    by true e = (0, omega arith, at)
    by false e = absurd cc
contains_kept p (x ∷ xs) v (suc k) low at passes = by (p x) (contains_kept p xs v k (omega (arith, low)) at passes)
  where
    by : (b : Bool) → Contains (filter p xs) v → Contains (cond b (x ∷ filter p xs) (filter p xs)) v
    by true rest = (suc rest.0, omega (arith, rest.1), rest.2)
    by false rest = rest

inside_itself : (low high v : ℤ) → low ≤ℤ v → v ≤ℤ high → is_inside low high v ≡ true
inside_itself low high v above under = grind (arith, ints, above, under)

-- the value of a rank has, among the values of a range that holds it, the rank less the number of those below the range
rank_inside : (values : List ℤ) (rank : ℕ) (v low high : ℤ) → HasRank values rank v → below low values < rank → low ≤ℤ v → v ≤ℤ high
    → HasRank (inside low high values) (rank - below low values) v
rank_inside values rank v low high has few above under = record {
  there = contains_kept (is_inside low high) values v has.there.0 has.there.1 has.there.2 (inside_itself low high v above under);
  reached = let many = has.reached in let same = up_to-inside low high v values above under in omega (arith, many, same);
  least = λ u less. by_lt_z u low
      (λ out. let none = none_inside low high u values out in omega (arith, none, few))
      (λ not_under. let fewer = has.least u less in let same =
      up_to-inside low high u values not_under (omega (arith, ints, less, under)) in omega (arith, fewer, same, few));
}

pub rank_held : RankIsHeld
rank_held values rank v low high has holds = (rank_not_below values rank v low has holds.0, rank_not_above values rank v high has holds.1)

pub rank_within : RankIsInside
rank_within values rank v low high has holds =
    rank_inside values rank v low high has holds.0 (rank_not_below values rank v low has holds.0)
    (rank_not_above values rank v high has holds.1)
