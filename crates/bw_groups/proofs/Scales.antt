-- Ranks of values as numbers on a scale make the groups of the values.
use Rattle.std.proofs.Common.{All, Bool, List, None, Option, Some, [], ap, append-nil, arith, false, get_or, if◌then◌else◌, length, map, pos, refl, subst, suc, sym, true, unsigned_abs, zero, inl, inr, ℕ, ℤ, ◌&&◌, ◌++◌, ◌+ℤ◌, ◌<ℤ◌, ◌<◌, ◌==◌, ◌^◌, ◌||◌, ◌∙◌, ◌∷◌, ◌≡◌, ◌≤◌, ◌≤ℤ◌}
use Rattle.std.specs.List.{dedup, list_any}
use Rattle.std.specs.Ordering.{int_eq}
use Rattle.std.specs.Prelude.{is_none, unwrap_or, ◌-ℤ◌}
use Rattle.std.proofs.lemmas.Bool.{cases_lt}
use Rattle.std.proofs.lemmas.Bool.Decides.{nat_tests}
use Rattle.std.proofs.lemmas.Int.{ints}
use Rattle.std.proofs.lemmas.List.{get_or-map, length-map, map-append}
use Rattle.std.proofs.lemmas.List.Elements.{All-head, All-tail}
use Rattle.bw_cells.specs.SetFunctions.{known, sorted}
use Rattle.bw_model.specs.Groups.{group_values, is_same}
use Rattle.bw_rank.specs.Ranks.{AreRanks, times_in}
use Rattle.bw_groups.specs.Grouping.{AreCounted, AreGroups}
use Rattle.bw_code.specs.declared.ends.Ends.{Ends}
use Rattle.bw_groups.specs.Runs.{IsWithin}
use Rattle.bw_groups.specs.Scales.{IsBelowNull, number_on, value_on}
use Rattle.bw_groups.specs.Spreading.{ranks_over}
use Rattle.bw_groups.proofs.Distinct.{Rises, RisesFrom, dedup-has, dedup-rises, distinct-is, has, has-sorted, sorted-ascends}
use Rattle.bw_groups.proofs.Grouped.{climbs_from, counted_known, map_entries, ranks_many}
use Rattle.bw_groups.proofs.RanksMake.{at_has, entries_are, same_test}
use Rattle.bw_groups.proofs.Spread.{all_known}

-- null as an integer above the values
abbrev over : ℤ → Option ℤ → ℤ
over top value = unwrap_or value top

-- each number stands for its value
pub stand : (least : ℤ) (null : ℕ) → null < 2 ^ 32 → (values : List (Option ℤ)) → All (IsBelowNull least null) (known values) → map (λ n. least +ℤ pos n) (map (number_on least null) values) ≡ map (over (least +ℤ pos null)) values
stand least null narrow [] all = refl
stand least null narrow (None ∷ values) all = ap (λ xs. (least +ℤ pos null) ∷ xs) (stand least null narrow values all)
stand least null narrow (Some x ∷ values) all =
    let here = All-head (IsBelowNull least null) x (known values) all in
    ap (λ y. y ∷ map (λ n. least +ℤ pos n) (map (number_on least null) values)) (back here.0 here.1)
    ∙ ap (λ ys. x ∷ ys) (stand least null narrow values (All-tail (IsBelowNull least null) x (known values) all))
  where
    back : least ≤ℤ x → x <ℤ (least +ℤ pos null) → (least +ℤ pos (unsigned_abs (x -ℤ least))) ≡ x
    back low high = omega (arith, ints, low)

-- no number is above that of null
pub few_numbers : (least : ℤ) (null : ℕ) → null < 2 ^ 32 → (values : List (Option ℤ)) → All (IsBelowNull least null) (known values) → All (λ n. n ≤ null) (map (number_on least null) values)
few_numbers least null narrow [] all k d h = absurd (omega (arith, h))
few_numbers least null narrow (None ∷ values) all zero d h = omega arith
few_numbers least null narrow (None ∷ values) all (suc k) d h = few_numbers least null narrow values all k d (omega (arith, h))
few_numbers least null narrow (Some x ∷ values) all (suc k) d h = few_numbers least null narrow values (All-tail (IsBelowNull least null) x (known values) all) k d (omega (arith, h))
few_numbers least null narrow (Some x ∷ values) all zero d h = let here = All-head (IsBelowNull least null) x (known values) all in most here.0 here.1
  where
    most : least ≤ℤ x → x <ℤ (least +ℤ pos null) → unsigned_abs (x -ℤ least) ≤ null
    most low high = omega (arith, ints, low, high)

-- what lies between the ends has a number below that of null
pub below_null : (ends : Ends) (null : ℕ) (xs : List ℤ) → (ends.least +ℤ pos null) ≡ (ends.greatest +ℤ pos 1) → All (IsWithin ends) xs → All (IsBelowNull ends.least null) xs
below_null ends null xs above all k d h = let here = all k d h in (here.0, less (get_or xs k d) here.1)
  where
    less : (x : ℤ) → x ≤ℤ ends.greatest → x <ℤ (ends.least +ℤ pos null)
    less x most = omega (arith, ints, above, most)

known_some : (xs : List ℤ) → known (map (λ x. Some x) xs) ≡ xs
known_some [] = refl
known_some (x ∷ xs) = ap (λ ys. x ∷ ys) (known_some xs)

-- the integers that numbers stand for, as values
module _ (least : ℤ) (numbers entries ranks : List ℕ) (r : AreRanks numbers entries ranks) where
  abbrev integers : List ℤ
  integers = map (λ n. least +ℤ pos n) numbers

  abbrev no_nulls : List (Option ℤ)
  no_nulls = map (λ x. Some x) integers

  plain_stands : integers ≡ known no_nulls
  plain_stands = sym (known_some integers)

  plain_long : length no_nulls ≡ length numbers
  plain_long = length-map integers (λ x. Some x) ∙ length-map numbers (λ n. least +ℤ pos n)

  plain_whole : length (known no_nulls) ≡ length no_nulls
  plain_whole = ap length (known_some integers) ∙ sym (length-map integers (λ x. Some x))

  ranked_many : length ranks ≡ length (known no_nulls)
  ranked_many = ranks_many least no_nulls numbers plain_stands entries ranks r

  plain_same : ranks ≡ ranks_over no_nulls ranks (length entries)
  plain_same = all_known no_nulls ranks (length entries) (ranked_many ∙ plain_whole) ranked_many

  -- how often each number stands is how many rows its group has
  pub counted : (times : List ℕ) → times ≡ map (times_in numbers) entries → length numbers ≤ 2 ^ 24 → AreCounted ranks times
  counted times is few = subst (λ rs. AreCounted rs times) (sym plain_same) (counted_known least no_nulls numbers plain_stands entries ranks r times is (omega (arith, few, plain_long)) plain_whole)

both_or : (k b e : Bool) → (e || (k || (b && e))) ≡ (k || e)
both_or true true true = refl
both_or true true false = refl
both_or true false true = refl
both_or true false false = refl
both_or false true true = refl
both_or false true false = refl
both_or false false true = refl
both_or false false false = refl

or_assoc : (x k r : Bool) → (x || (k || r)) ≡ ((x || k) || r)
or_assoc true k r = refl
or_assoc false k r = refl

or_none : (b : Bool) → (b || false) ≡ b
or_none true = refl
or_none false = refl

or_later : (a b : Bool) → b ≡ true → (a || b) ≡ true
or_later true b h = refl
or_later false b h = h

has-append : (z : ℤ) (xs ys : List ℤ) → has (xs ++ ys) z ≡ (has xs z || has ys z)
has-append z [] ys = refl
has-append z (x ∷ xs) ys = ap (λ b. int_eq z x || b) (has-append z xs ys) ∙ or_assoc (int_eq z x) (has xs z) (has ys z)

has-over : (top z : ℤ) (values : List (Option ℤ)) → has (map (over top) values) z ≡ (has (known values) z || (list_any is_none values && int_eq z top))
has-over top z [] = refl
has-over top z (None ∷ values) = ap (λ b. int_eq z top || b) (has-over top z values) ∙ both_or (has (known values) z) (list_any is_none values) (int_eq z top)
has-over top z (Some x ∷ values) = ap (λ b. int_eq z x || b) (has-over top z values) ∙ or_assoc (int_eq z x) (has (known values) z) (list_any is_none values && int_eq z top)

abbrev last_of : Bool → ℤ → List ℤ
last_of b top = if b then top ∷ [] else []

has-last : (b : Bool) (top z : ℤ) → has (last_of b top) z ≡ (b && int_eq z top)
has-last true top z = or_none (int_eq z top)
has-last false top z = refl

push_from : (x top : ℤ) (xs : List ℤ) → RisesFrom x xs → x <ℤ top → ((z : ℤ) → has xs z ≡ true → z <ℤ top) → RisesFrom x (xs ++ top ∷ [])
push_from x top [] r low all = (low, tt)
push_from x top (y ∷ ys) r low all =
    let itself : int_eq y y ≡ true = grind (arith, ints) in
    (r.0, push_from y top ys r.1 (all y (ap (λ b. b || has ys y) itself)) (λ z h. all z (or_later (int_eq z y) (has ys z) h)))

rises_push : (top : ℤ) (xs : List ℤ) → Rises xs → ((z : ℤ) → has xs z ≡ true → z <ℤ top) → Rises (xs ++ top ∷ [])
rises_push top [] r all = tt
rises_push top (x ∷ xs) r all =
    let itself : int_eq x x ≡ true = grind (arith, ints) in
    push_from x top xs r (all x (ap (λ b. b || has xs x) itself)) (λ z h. all z (or_later (int_eq z x) (has xs z) h))

rises_last : (b : Bool) (top : ℤ) (xs : List ℤ) → Rises xs → ((z : ℤ) → has xs z ≡ true → z <ℤ top) → Rises (xs ++ last_of b top)
rises_last true top xs r all = rises_push top xs r all
rises_last false top xs r all = rw append-nil r

-- the integers that stand for the values, each once and in order
module _ (top : ℤ) (values : List (Option ℤ)) (all : All (λ x. x <ℤ top) (known values)) where
  abbrev each : List ℤ
  each = dedup int_eq (sorted (known values))

  has-each : (z : ℤ) → has each z ≡ has (known values) z
  has-each z = dedup-has z (sorted (known values)) ∙ has-sorted z (known values)

  pub each_below : (z : ℤ) → has each z ≡ true → z <ℤ top
  each_below z there =
      let at = at_has (known values) z top (sym (has-each z) ∙ there) in
      subst (λ x. x <ℤ top) at.2 (all at.0 top at.1)

  pub integers_are : each ++ last_of (list_any is_none values) top ≡ dedup int_eq (sorted (map (over top) values))
  integers_are =
      distinct-is (each ++ last_of (list_any is_none values) top) (map (over top) values)
      (rises_last (list_any is_none values) top each (dedup-rises (sorted (known values)) (sorted-ascends (known values))) each_below)
      (λ z.
      has-append z each (last_of (list_any is_none values) top)
      ∙ ap (λ b. b || has (last_of (list_any is_none values) top) z) (has-each z)
      ∙ ap (λ b. has (known values) z || b) (has-last (list_any is_none values) top z)
      ∙ sym (has-over top z values))

-- null again, and the other values
abbrev back_from : ℤ → ℤ → Option ℤ
back_from top z = if int_eq z top then None else Some z

number_test : (least : ℤ) (null n : ℕ) → (n == null) ≡ int_eq (least +ℤ pos n) (least +ℤ pos null)
number_test least null n =
    elim (cases_lt n null) [
      | inl less ↦
          let above = climbs_from least n null less in
          let a : (n == null) ≡ false = grind (arith, nat_tests, less) in
          let b : int_eq (least +ℤ pos n) (least +ℤ pos null) ≡ false = grind (arith, ints, above) in
          a ∙ sym b
      | inr upto ↦ elim (cases_lt null n) [
        | inl more ↦
            let above = climbs_from least null n more in
            let a : (n == null) ≡ false = grind (arith, nat_tests, more) in
            let b : int_eq (least +ℤ pos n) (least +ℤ pos null) ≡ false = grind (arith, ints, above) in
            a ∙ sym b
        | inr within ↦
            let is : n ≡ null = omega (arith, upto, within) in
            let one = ap (λ m. least +ℤ pos m) is in
            let a : (n == null) ≡ true = grind (arith, nat_tests, is) in
            let b : int_eq (least +ℤ pos n) (least +ℤ pos null) ≡ true = grind (arith, ints, one) in
            a ∙ sym b
      ]
    ]

value_back : (least : ℤ) (null n : ℕ) → value_on least null n ≡ back_from (least +ℤ pos null) (least +ℤ pos n)
value_back least null n = ap (λ (b : Bool). if b then None else Some (least +ℤ pos n)) (number_test least null n)

values_back : (least : ℤ) (null : ℕ) (ns : List ℕ) → map (value_on least null) ns ≡ map (back_from (least +ℤ pos null)) (map (λ n. least +ℤ pos n) ns)
values_back least null [] = refl
values_back least null (n ∷ ns) =
    ap (λ v. v ∷ map (value_on least null) ns) (value_back least null n)
    ∙ ap (λ vs. back_from (least +ℤ pos null) (least +ℤ pos n) ∷ vs) (values_back least null ns)

some_back : (top : ℤ) (xs : List ℤ) → ((z : ℤ) → has xs z ≡ true → z <ℤ top) → map (back_from top) xs ≡ map (λ x. Some x) xs
some_back top [] all = refl
some_back top (x ∷ xs) all =
    let itself : int_eq x x ≡ true = grind (arith, ints) in
    let low = all x (ap (λ b. b || has xs x) itself) in
    let test : int_eq x top ≡ false = grind (arith, ints, low) in
    ap (λ (b : Bool). (if b then None else Some x) ∷ map (back_from top) xs) test
    ∙ ap (λ vs. Some x ∷ vs) (some_back top xs (λ z h. all z (or_later (int_eq z x) (has xs z) h)))

last_back : (b : Bool) (top : ℤ) → map (back_from top) (last_of b top) ≡ (if b then None ∷ [] else [])
last_back true top = let itself : int_eq top top ≡ true = grind (arith, ints) in ap (λ (b : Bool). (if b then None else Some top) ∷ []) itself
last_back false top = refl

flipped : (x y : ℤ) (b : Bool) → int_eq x y ≡ b → int_eq y x ≡ b
flipped x y true e = grind (arith, ints, e)
flipped x y false e = grind (arith, ints, e)

-- a value is that of a number where the integers that stand for both are one
same_value : (least : ℤ) (null m : ℕ) (value : Option ℤ) → ((x : ℤ) → value ≡ Some x → x <ℤ (least +ℤ pos null)) → int_eq (over (least +ℤ pos null) value) (least +ℤ pos m) ≡ is_same value (value_on least null m)
same_value least null m value low = by value low (int_eq (least +ℤ pos m) (least +ℤ pos null)) refl ∙ ap (is_same value) (sym (value_back least null m))
  where
    by : (v : Option ℤ) → ((x : ℤ) → v ≡ Some x → x <ℤ (least +ℤ pos null)) → (b : Bool) → int_eq (least +ℤ pos m) (least +ℤ pos null) ≡ b → int_eq (over (least +ℤ pos null) v) (least +ℤ pos m) ≡ is_same v (if b then None else Some (least +ℤ pos m))
    by None less true e = flipped (least +ℤ pos m) (least +ℤ pos null) true e
    by None less false e = flipped (least +ℤ pos m) (least +ℤ pos null) false e
    by (Some x) less true e = let here = less x refl in grind (arith, ints, e, here)
    by (Some x) less false e = refl

-- the values of the groups, and the rows of each
module _ (least : ℤ) (null : ℕ) (values : List (Option ℤ)) (all : All (IsBelowNull least null) (known values)) (numbers entries ranks : List ℕ) (stands : map (λ n. least +ℤ pos n) numbers ≡ map (over (least +ℤ pos null)) values) (r : AreRanks numbers entries ranks) where
  abbrev f : ℕ → ℤ
  f n = least +ℤ pos n

  below : All (λ x. x <ℤ (least +ℤ pos null)) (known values)
  below k d h = (all k d h).1

  values_are : map (value_on least null) entries ≡ group_values values
  values_are =
      values_back least null entries
      ∙ ap (map (back_from (f null))) (entries_are f (climbs_from least) numbers entries ranks r ∙ ap (λ xs. dedup int_eq (sorted xs)) stands ∙ sym (integers_are (f null) values below))
      ∙ map-append (back_from (f null)) (dedup int_eq (sorted (known values))) (last_of (list_any is_none values) (f null))
      ∙ ap (λ xs. xs ++ map (back_from (f null)) (last_of (list_any is_none values) (f null))) (some_back (f null) (dedup int_eq (sorted (known values))) (each_below (f null) values below))
      ∙ ap (λ xs. map (λ x. Some x) (dedup int_eq (sorted (known values))) ++ xs) (last_back (list_any is_none values) (f null))

  abbrev at : ℕ → ℤ
  at q = f (get_or entries q 0)

  first_is : (x y : ℤ) (xs ys : List ℤ) → x ∷ xs ≡ y ∷ ys → x ≡ y
  first_is x y xs ys e = cc

  rest_are : (x y : ℤ) (xs ys : List ℤ) → x ∷ xs ≡ y ∷ ys → xs ≡ ys
  rest_are x y xs ys e = cc

  rows_are : (g : ℕ) → g < length entries → (vs : List (Option ℤ)) (qs : List ℕ) → All (λ q. q < length entries) qs → All (λ x. x <ℤ (least +ℤ pos null)) (known vs) → map at qs ≡ map (over (f null)) vs
      → map (λ q. q == g) qs ≡ map (λ value. is_same value (value_on least null (get_or entries g 0))) vs
  rows_are g low [] [] inside lows is = refl
  rows_are g low [] (q ∷ qs) inside lows is = absurd (let e = ap length is in omega (arith, e))
  rows_are g low (v ∷ vs) [] inside lows is = absurd (let e = ap length is in omega (arith, e))
  rows_are g low (v ∷ vs) (q ∷ qs) inside lows is =
      let there = All-head (λ m. m < length entries) q qs inside in
      let test : (q == g) ≡ is_same v (value_on least null (get_or entries g 0)) =
      sym (same_test f (climbs_from least) numbers entries ranks r q g there low)
      ∙ ap (λ x. int_eq x (at g)) (first_is (at q) (over (f null) v) (map at qs) (map (over (f null)) vs) is)
      ∙ same_value least null (get_or entries g 0) v (one v lows) in
      ap (λ b. b ∷ map (λ m. m == g) qs) test
      ∙ ap (λ bs. is_same v (value_on least null (get_or entries g 0)) ∷ bs) (rows_are g low vs qs (All-tail (λ m. m < length entries) q qs inside) (others v lows) (rest_are (at q) (over (f null) v) (map at qs) (map (over (f null)) vs) is))
    where
      one : (value : Option ℤ) → All (λ x. x <ℤ (least +ℤ pos null)) (known (value ∷ vs)) → (x : ℤ) → value ≡ Some x → x <ℤ (least +ℤ pos null)
      one None h x e = cc
      one (Some y) h x e = let same : y ≡ x = cc in subst (λ z. z <ℤ (least +ℤ pos null)) same (All-head (λ z. z <ℤ (least +ℤ pos null)) y (known vs) h)

      others : (value : Option ℤ) → All (λ x. x <ℤ (least +ℤ pos null)) (known (value ∷ vs)) → All (λ x. x <ℤ (least +ℤ pos null)) (known vs)
      others None h = h
      others (Some y) h = All-tail (λ z. z <ℤ (least +ℤ pos null)) y (known vs) h

  -- all of it
  pub scaled_groups : (items : List (Option ℤ)) → items ≡ map (value_on least null) entries → AreGroups values (record { values = items; ranks = ranks })
  scaled_groups items is = record {
    are = is ∙ values_are;
    rows = λ g low.
        let there : g < length entries = omega (arith, low, ap length is, length-map entries (value_on least null)) in
        rows_are g there values ranks r.inside below (sym (map_entries f entries ranks) ∙ ap (map f) r.each ∙ stands)
        ∙ ap (λ v. map (λ value. is_same value v) values) (sym (ap (λ vs. get_or vs g None) is ∙ get_or-map (value_on least null) entries g 0 None there));
  }

  -- no entry is above null's number
  pub entries_few : All (λ n. n ≤ null) numbers → All (λ n. n ≤ null) entries
  entries_few few k d low =
      let c = r.among k d low in
      let here = few c.0 (get_or entries k d) c.1 in
      subst (λ n. n ≤ null) c.2 here
