-- Rows by the ranks of the numbers that stand for their values.
use Rattle.std.proofs.Common.{Bool, List, None, Option, Some, [], ap, arith, cond, false, get_or, length, map, pos, refl, sym, true, ℕ, ℤ, inl, inr, ◌++◌, ◌+◌, ◌+ℤ◌, ◌-◌, ◌<◌, ◌==◌, ◌≡◌, ◌≤◌, ◌∙◌, ◌∷◌, not, if◌then◌else◌, ◌^◌, ◌≤ℤ◌, All, subst, suc}
use Rattle.std.specs.List.{dedup, dedup_from, list_any}
use Rattle.std.specs.Ordering.{int_eq}
use Rattle.std.specs.Prelude.{is_none}
use Rattle.std.proofs.lemmas.Bool.{cases_eq, cases_lt}
use Rattle.std.proofs.lemmas.Bool.Decides.{nat_tests}
use Rattle.std.proofs.lemmas.Int.{ints}
use Rattle.std.proofs.lemmas.List.{get_or-map, get_or_append_left, get_or_push, length-append, length-map}
use Rattle.std.proofs.lemmas.List.Elements.{All-head, All-tail}
use Rattle.bw_aggregate.proofs.Counting.{count_cons}
use Rattle.bw_aggregate.proofs.Ranks.{length-sorted}
use Rattle.bw_cells.specs.SetFunctions.{known, sorted}
use Rattle.bw_rank.specs.Ranks.{AreRanks, times_in}
use Rattle.bw_model.specs.Groups.{group_values, is_same}
use Rattle.bw_groups.specs.Grouping.{AreCounted, AreGroups, rows_in}
use Rattle.bw_groups.specs.Spreading.{ranks_over}
use Rattle.bw_groups.proofs.RanksMake.{Climbs, apart, entries_are, same_test}
use Rattle.bw_groups.proofs.Spread.{all_known, known_few, no_nulls, nulls_there, rows_known, rows_null, same_known, same_null, spread_inside, spread_length}

pub climbs_from : (base : ℤ) → Climbs (λ n. base +ℤ pos n)
climbs_from base m n less = omega (arith, ints, less)

map_some : (f : ℕ → ℤ) (ns : List ℕ) → map (λ n. Some (f n)) ns ≡ map (λ x. Some x) (map f ns)
map_some f [] = refl
map_some f (n ∷ ns) = ap (λ xs. Some (f n) ∷ xs) (map_some f ns)

pub map_entries : (f : ℕ → ℤ) (entries ranks : List ℕ) → map f (map (λ r. get_or entries r 0) ranks) ≡ map (λ r. f (get_or entries r 0)) ranks
map_entries f entries [] = refl
map_entries f entries (r ∷ ranks) = ap (λ xs. f (get_or entries r 0) ∷ xs) (map_entries f entries ranks)

once_few : (k : ℤ) (xs : List ℤ) → length (dedup_from int_eq k xs) ≤ suc (length xs)
once_few k [] = omega arith
once_few k (x ∷ xs) = by (int_eq x k) (once_few k xs) (once_few x xs)
  where
    by : (b : Bool) → length (dedup_from int_eq k xs) ≤ suc (length xs) → length (dedup_from int_eq x xs) ≤ suc (length xs) → length (cond b (dedup_from int_eq k xs) (k ∷ dedup_from int_eq x xs)) ≤ suc (suc (length xs))
    by true a b = omega (arith, a)
    by false a b = omega (arith, b)

dedup_few : (xs : List ℤ) → length (dedup int_eq xs) ≤ length xs
dedup_few [] = omega arith
dedup_few (x ∷ xs) = once_few x xs

-- numbers that stand for the values, with their ranks
module _ (base : ℤ) (values : List (Option ℤ)) (numbers : List ℕ) (stand : map (λ n. base +ℤ pos n) numbers ≡ known values) (entries ranks : List ℕ) (r : AreRanks numbers entries ranks) where
  abbrev f : ℕ → ℤ
  f n = base +ℤ pos n

  abbrev n : ℕ
  n = length entries

  abbrev at : ℕ → ℤ
  at q = f (get_or entries q 0)

  climbs : Climbs f
  climbs = climbs_from base

  are_apart : (q g : ℕ) → q < n → g < n → int_eq (at q) (at g) ≡ (q == g)
  are_apart = same_test f climbs numbers entries ranks r

  stand_too : map at ranks ≡ known values
  stand_too = sym (map_entries f entries ranks) ∙ ap (map f) r.each ∙ stand

  pub many : length numbers ≡ length (known values)
  many = sym (length-map numbers f) ∙ ap length stand

  pub ranks_many : length ranks ≡ length (known values)
  ranks_many = sym (length-map ranks at) ∙ ap length stand_too

  pub few_entries : n ≤ length numbers
  few_entries =
      let a : length (map f entries) ≡ n = length-map entries f in
      let b = ap length (entries_are f climbs numbers entries ranks r) in
      let c = dedup_few (sorted (map f numbers)) in
      let d = length-sorted (map f numbers) in
      let e : length (map f numbers) ≡ length numbers = length-map numbers f in
      omega (arith, a, b, c, d, e)

  -- an entry stands for one of the values
  pub entries_within : (top : ℤ) → All (λ x. x ≤ℤ top) (known values) → All (λ m. (base +ℤ pos m) ≤ℤ top) entries
  entries_within top all k d low =
      let c = r.among k d low in
      let there : c.0 < length (known values) = omega (arith, c.1, many) in
      let is : get_or (known values) c.0 (f d) ≡ f (get_or entries k d) = ap (λ xs. get_or xs c.0 (f d)) (sym stand) ∙ get_or-map f numbers c.0 (get_or entries k d) (f d) c.1 ∙ ap f c.2 in
      subst (λ x. x ≤ℤ top) is (all c.0 (f d) there)

  -- whether a null is there, by how many numbers there are
  pub null_test : (count : ℕ) → count ≡ length numbers → list_any is_none values ≡ not (length values - count == 0)
  null_test count is =
      elim (cases_lt (length (known values)) (length values)) [
        | inl some ↦ let test : (length values - count == 0) ≡ false = grind (arith, nat_tests, some, is, many) in nulls_there values some ∙ ap not (sym test)
        | inr all ↦
            let none : length (known values) ≡ length values = omega (arith, all, known_few values) in
            let test : (length values - count == 0) ≡ true = grind (arith, nat_tests, none, is, many) in
            no_nulls values none ∙ ap not (sym test)
      ]

  -- the values of the groups
  pub values_are : (b : Bool) → list_any is_none values ≡ b → map (λ m. Some (f m)) entries ++ (if b then None ∷ [] else []) ≡ group_values values
  values_are b is =
      ap (λ xs. xs ++ (if b then None ∷ [] else [])) (map_some f entries ∙ ap (map (λ x. Some x)) (entries_are f climbs numbers entries ranks r ∙ ap (λ xs. dedup int_eq (sorted xs)) stand))
      ∙ ap (λ c. map (λ x. Some x) (dedup int_eq (sorted (known values))) ++ (if c then None ∷ [] else [])) (sym is)

  abbrev group : Bool → ℕ → Option ℤ
  group b g = get_or (map (λ m. Some (f m)) entries ++ (if b then None ∷ [] else [])) g None

  group_known : (b : Bool) (g : ℕ) → g < n → group b g ≡ Some (at g)
  group_known b g low =
      get_or_append_left (map (λ m. Some (f m)) entries) (if b then None ∷ [] else []) None g (omega (arith, low, length-map entries (λ m. Some (f m)))) ∙ get_or-map (λ m. Some (f m)) entries g 0 None low

  pub group_count : (b : Bool) → length (map (λ m. Some (f m)) entries ++ (if b then None ∷ [] else [])) ≡ n + cond b 1 0
  group_count true = length-append (map (λ m. Some (f m)) entries) (None ∷ []) ∙ ap (λ k. k + 1) (length-map entries (λ m. Some (f m)))
  group_count false = length-append (map (λ m. Some (f m)) entries) [] ∙ ap (λ k. k + 0) (length-map entries (λ m. Some (f m)))

  pub rows_are : (b : Bool) (g : ℕ) → g < n + cond b 1 0 → map (λ q. q == g) (ranks_over values ranks n) ≡ map (λ value. is_same value (group b g)) values
  rows_are b g low =
      elim (cases_lt g n) [
        | inl less ↦ same_known n at are_apart g less values ranks r.inside stand_too ∙ ap (λ v. map (λ value. is_same value v) values) (sym (group_known b g less))
        | inr past ↦ last b low past
      ]
    where
      last : (c : Bool) → g < n + cond c 1 0 → n ≤ g → map (λ q. q == g) (ranks_over values ranks n) ≡ map (λ value. is_same value (group c g)) values
      last false l p = absurd (omega (arith, l, p))
      last true l p =
          let is : g ≡ n = omega (arith, l, p) in
          let null : group true g ≡ None = get_or_push (map (λ m. Some (f m)) entries) None None g (length-map entries (λ m. Some (f m)) ∙ sym is) in
          ap (λ m. map (λ q. q == m) (ranks_over values ranks n)) is ∙ same_null n at are_apart values ranks r.inside ranks_many ∙ ap (λ v. map (λ value. is_same value v) values) (sym null)

  -- all of it of lists that are these
  pub are_groups : (b : Bool) → list_any is_none values ≡ b → (items : List (Option ℤ)) (spread : List ℕ) → items ≡ map (λ m. Some (f m)) entries ++ (if b then None ∷ [] else []) → spread ≡ ranks_over values ranks n
      → AreGroups values (record { values = items; ranks = spread })
  are_groups b null items spread is are = record {
    are = is ∙ values_are b null;
    rows = λ g low. rw (is, are) (rows_are b g (rw (is, group_count b) at low));
  }

  -- how many rows a group has
  module _ (times : List ℕ) (counted : times ≡ map (times_in numbers) entries) (few : length values ≤ 2 ^ 24) where
    times_same : (g : ℕ) → g < n → (qs : List ℕ) → All (λ q. q < n) qs → times_in (map (λ q. get_or entries q 0) qs) (get_or entries g 0) ≡ rows_in qs g
    times_same g low [] all = refl
    times_same g low (q ∷ qs) all =
        let rest = times_same g low qs (All-tail (λ m. m < n) q qs all) in
        let test : (get_or entries q 0 == get_or entries g 0) ≡ (q == g) = same q (All-head (λ m. m < n) q qs all) in
        count_cons (λ m. m == get_or entries g 0) (get_or entries q 0) (map (λ m. get_or entries m 0) qs) ∙ ap (λ b. cond b 1 0 + times_in (map (λ m. get_or entries m 0) qs) (get_or entries g 0)) test
        ∙ ap (λ k. cond (q == g) 1 0 + k) rest ∙ sym (count_cons (λ m. m == g) q qs)
      where
        same : (q : ℕ) → q < n → (get_or entries q 0 == get_or entries g 0) ≡ (q == g)
        same q h =
            elim (cases_eq q g) [
              | inl here ↦ let a : (q == g) ≡ true = grind (arith, nat_tests, here) in let b : (get_or entries q 0 == get_or entries g 0) ≡ true = grind (arith, nat_tests, ap (λ x. get_or entries x 0) here) in b ∙ sym a
              | inr other ↦
                  let a : (q == g) ≡ false = grind (arith, nat_tests, other) in
                  let differ : get_or entries q 0 ≡ get_or entries g 0 → ⊥ = λ e. other (apart f climbs numbers entries ranks r q g h low e) in
                  let b : (get_or entries q 0 == get_or entries g 0) ≡ false = grind (arith, nat_tests, differ) in
                  b ∙ sym a
            ]

    times_known : (g : ℕ) → g < n → get_or times g 0 ≡ rows_in (ranks_over values ranks n) g
    times_known g low =
        ap (λ ts. get_or ts g 0) counted ∙ get_or-map (times_in numbers) entries g 0 0 low ∙ ap (λ ns. times_in ns (get_or entries g 0)) (sym r.each) ∙ times_same g low ranks r.inside
        ∙ sym (rows_known n g low values ranks ranks_many)

    times_long : length times ≡ n
    times_long = ap length counted ∙ length-map entries (times_in numbers)

    -- without nulls, and with them
    pub counted_known : length (known values) ≡ length values → AreCounted (ranks_over values ranks n) times
    counted_known whole = record {
      few = omega (arith, few, spread_length values ranks n ranks_many);
      inside = subst_ranks (all_known values ranks n (ranks_many ∙ whole) ranks_many);
      each = λ g low. times_known g (omega (arith, low, times_long));
    }
      where
        subst_ranks : ranks ≡ ranks_over values ranks n → All (λ q. q < length times) (ranks_over values ranks n)
        subst_ranks e = rw (sym e, times_long) r.inside

    pub counted_null : (nulls : ℕ) → nulls ≡ length values - length numbers → AreCounted (ranks_over values ranks n) (times ++ nulls ∷ [])
    counted_null nulls is =
        let long = length-append times (nulls ∷ []) in
        record {
          few = omega (arith, few, spread_length values ranks n ranks_many);
          inside = spread_inside (length (times ++ nulls ∷ [])) n values ranks (omega (arith, long, times_long)) (λ k d low. let at = r.inside k d low in omega (arith, at, long, times_long));
          each = λ g low.
              elim (cases_lt g n) [
                | inl less ↦ get_or_append_left times (nulls ∷ []) 0 g (omega (arith, less, times_long)) ∙ times_known g less
                | inr past ↦
                    let same : length times ≡ g = omega (arith, past, low, long, times_long) in
                    let all = rows_null n values ranks r.inside ranks_many in
                    let here : rows_in (ranks_over values ranks n) g ≡ rows_in (ranks_over values ranks n) n = ap (rows_in (ranks_over values ranks n)) (sym same ∙ times_long) in
                    get_or_push times nulls 0 g same ∙ omega (arith, is, all, here, many)
              ];
        }
