-- Groups by indices are the groups by the ascending entries at them.
use Rattle.std.proofs.Common.{All, Bool, List, None, Option, Some, [], ap, arith, drop, false, get_or, if◌then◌else◌, length, map, pos, refl, set, subst, suc, sym, take, true, unsigned_abs, zero, ℕ, ℤ, ◌++◌, ◌+◌, ◌<ℤ◌, ◌<◌, ◌∙◌, ◌∷◌, ◌≡◌}
use Rattle.std.specs.List.{dedup, list_any}
use Rattle.std.specs.Ordering.{int_eq}
use Rattle.std.specs.Prelude.{IfSome, is_none, option_map}
use Rattle.std.proofs.lemmas.Int.{by_lt_z, ints}
use Rattle.std.proofs.lemmas.List.{drop_more, get_or-map, get_or_at, length-append, length-map, length-take, map-append, take-append-drop}
use Rattle.std.proofs.lemmas.List.Edits.{map_over_more}
use Rattle.std.proofs.lemmas.List.Elements.{All-head, All-tail}
use Rattle.bw_cells.specs.SetFunctions.{known, sorted}
use Rattle.bw_code.specs.Ascending.{IsAscending}
use Rattle.bw_model.specs.Groups.{group_values, is_same}
use Rattle.bw_groups.specs.Entries.{IsIndexOf, entries_of, entry_of}
use Rattle.bw_groups.specs.Grouping.{AreGroups, Grouping}
use Rattle.bw_groups.proofs.Distinct.{Rises, RisesFrom, dedup-has, dedup-rises, distinct-is, has, has-sorted, sorted-ascends}
use Rattle.bw_groups.proofs.RanksMake.{at_has, both_ways, has_at}

-- images of the values in a list
has_image : (f : ℤ → ℤ) (x : ℤ) (xs : List ℤ) → has xs x ≡ true → has (map f xs) (f x) ≡ true
has_image f x xs there =
    let k = at_has xs x x there in
    has_at (map f xs) k.0 (f x) (f x) (omega (arith, k.1, length-map xs f)) (get_or-map f xs k.0 x (f x) k.1 ∙ ap f k.2)

image_of : (f : ℤ → ℤ) (z : ℤ) (xs : List ℤ) → has (map f xs) z ≡ true → (x : ℤ) × (has xs x ≡ true) × (f x ≡ z)
image_of f z xs there =
    let k = at_has (map f xs) z z there in
    let low : k.0 < length xs = omega (arith, k.1, length-map xs f) in
    (get_or xs k.0 (pos 0), has_at xs k.0 (get_or xs k.0 (pos 0)) (pos 0) low refl, sym (get_or-map f xs k.0 (pos 0) z low) ∙ k.2)

same_images : (f : ℤ → ℤ) (xs ys : List ℤ) → ((x : ℤ) → has xs x ≡ has ys x) → (z : ℤ) → has (map f xs) z ≡ has (map f ys) z
same_images f xs ys same z = both_ways (has (map f xs) z) (has (map f ys) z) (across xs ys same) (across ys xs (λ x. sym (same x)))
  where
    across : (us vs : List ℤ) → ((x : ℤ) → has us x ≡ has vs x) → has (map f us) z ≡ true → has (map f vs) z ≡ true
    across us vs alike there =
        let x = image_of f z us there in
        subst (λ w. has (map f vs) w ≡ true) x.2 (has_image f x.0 vs (sym (alike x.0) ∙ x.1))

known_images : (f : ℤ → ℤ) (values : List (Option ℤ)) → known (map (option_map f) values) ≡ map f (known values)
known_images f [] = refl
known_images f (None ∷ values) = known_images f values
known_images f (Some x ∷ values) = ap (λ xs. f x ∷ xs) (known_images f values)

null_images : (f : ℤ → ℤ) (values : List (Option ℤ)) → list_any is_none (map (option_map f) values) ≡ list_any is_none values
null_images f [] = refl
null_images f (None ∷ values) = refl
null_images f (Some x ∷ values) = null_images f values

some_images : (f : ℤ → ℤ) (xs : List ℤ) → map (option_map f) (map (λ x. Some x) xs) ≡ map (λ x. Some x) (map f xs)
some_images f [] = refl
some_images f (x ∷ xs) = ap (λ vs. Some (f x) ∷ vs) (some_images f xs)

last_image : (f : ℤ → ℤ) (b : Bool) → map (option_map f) (if b then None ∷ [] else []) ≡ (if b then None ∷ [] else [])
last_image f true = refl
last_image f false = refl

-- the values of the groups without null
known_each : (xs : List ℤ) (b : Bool) → known (map (λ x. Some x) xs ++ (if b then None ∷ [] else [])) ≡ xs
known_each [] true = refl
known_each [] false = refl
known_each (x ∷ xs) b = ap (λ ys. x ∷ ys) (known_each xs b)

has_each : (x : ℤ) (xs : List ℤ) → has (dedup int_eq (sorted xs)) x ≡ has xs x
has_each x xs = dedup-has x (sorted xs) ∙ has-sorted x xs

has_groups : (x : ℤ) (values : List (Option ℤ)) → has (known (group_values values)) x ≡ has (known values) x
has_groups x values = ap (λ xs. has xs x) (known_each (dedup int_eq (sorted (known values))) (list_any is_none values)) ∙ has_each x (known values)

module _ (P : ℤ → Type 0) where
  -- what holds of all values of a list holds of those of a list with the same values
  all_has : (xs ys : List ℤ) → ((x : ℤ) → has xs x ≡ has ys x) → All P ys → All P xs
  all_has xs ys same all k d low =
      let x = get_or xs k d in
      let at = at_has ys x d (sym (same x) ∙ has_at xs k x d low refl) in
      subst P at.2 (all at.0 d at.1)

  -- what holds of the values of rows holds of those of their groups, and the other way round
  pub groups_all : (values : List (Option ℤ)) (groups : Grouping) → AreGroups values groups → All P (known values) → All P (known groups.values)
  groups_all values groups are all = subst (λ vs. All P (known vs)) (sym are.are) (all_has (known (group_values values)) (known values) (λ x. has_groups x values) all)

  values_all : (values : List (Option ℤ)) (groups : Grouping) → AreGroups values groups → All P (known groups.values) → All P (known values)
  values_all values groups are all = all_has (known values) (known (group_values values)) (λ x. sym (has_groups x values)) (subst (λ vs. All P (known vs)) are.are all)

  pub known_at : (values : List (Option ℤ)) → All P (known values) → (k : ℕ) → IfSome (get_or values k None) P
  known_at [] all k = tt
  known_at (None ∷ values) all zero = tt
  known_at (None ∷ values) all (suc k) = known_at values all k
  known_at (Some y ∷ values) all zero = All-head P y (known values) all
  known_at (Some y ∷ values) all (suc k) = known_at values (All-tail P y (known values) all) k

  -- a function that keeps the order of such values
  module _ (f : ℤ → ℤ) (climbs : (x y : ℤ) → P x → P y → x <ℤ y → f x <ℤ f y) where
    rises_from : (x : ℤ) (ys : List ℤ) → P x → All P ys → RisesFrom x ys → RisesFrom (f x) (map f ys)
    rises_from x [] p all r = tt
    rises_from x (y ∷ ys) p all r = let q = All-head P y ys all in (climbs x y p q r.0, rises_from y ys q (All-tail P y ys all) r.1)

    rises : (xs : List ℤ) → All P xs → Rises xs → Rises (map f xs)
    rises [] all r = tt
    rises (x ∷ xs) all r = rises_from x xs (All-head P x xs all) (All-tail P x xs all) r

    same_test : (x y : ℤ) → P x → P y → int_eq (f x) (f y) ≡ int_eq x y
    same_test x y p q =
        by_lt_z x y
        (λ less.
        let above = climbs x y p q less in
        let a : int_eq (f x) (f y) ≡ false = grind (arith, ints, above) in
        let b : int_eq x y ≡ false = grind (arith, ints, less) in
        a ∙ sym b)
        (λ upto. by_lt_z y x
        (λ more.
        let above = climbs y x q p more in
        let a : int_eq (f x) (f y) ≡ false = grind (arith, ints, above) in
        let b : int_eq x y ≡ false = grind (arith, ints, more) in
        a ∙ sym b)
        (λ least.
        let is : x ≡ y = omega (arith, ints, upto, least) in
        let a : int_eq (f x) (f y) ≡ true = grind (arith, ints, ap f is) in
        let b : int_eq x y ≡ true = grind (arith, ints, is) in
        a ∙ sym b))

    -- the values of the groups
    each_image : (xs : List ℤ) → All P xs → map f (dedup int_eq (sorted xs)) ≡ dedup int_eq (sorted (map f xs))
    each_image xs all =
        let each = dedup int_eq (sorted xs) in
        distinct-is (map f each) (map f xs) (rises each (all_has each xs (λ x. has_each x xs) all) (dedup-rises (sorted xs) (sorted-ascends xs))) (same_images f each xs (λ x. has_each x xs))

    values_image : (values : List (Option ℤ)) → All P (known values) → map (option_map f) (group_values values) ≡ group_values (map (option_map f) values)
    values_image values all =
        let each = dedup int_eq (sorted (known values)) in
        let null : Bool = list_any is_none values in
        map-append (option_map f) (map (λ x. Some x) each) (if null then None ∷ [] else [])
        ∙ ap (λ vs. vs ++ map (option_map f) (if null then None ∷ [] else [])) (some_images f each ∙ ap (map (λ x. Some x)) (each_image (known values) all ∙ ap (λ xs. dedup int_eq (sorted xs)) (sym (known_images f values))))
        ∙ ap (λ vs. map (λ x. Some x) (dedup int_eq (sorted (known (map (option_map f) values)))) ++ vs) (last_image f null ∙ ap (λ (b : Bool). if b then None ∷ [] else []) (sym (null_images f values)))

    -- which rows have the value of a group
    row_test : (v w : Option ℤ) → IfSome v P → IfSome w P → is_same (option_map f v) (option_map f w) ≡ is_same v w
    row_test None None p q = refl
    row_test None (Some y) p q = refl
    row_test (Some x) None p q = refl
    row_test (Some x) (Some y) p q = same_test x y p q

    rows_test : (values : List (Option ℤ)) (w : Option ℤ) → All P (known values) → IfSome w P → map (λ v. is_same v (option_map f w)) (map (option_map f) values) ≡ map (λ v. is_same v w) values
    rows_test [] w all q = refl
    rows_test (v ∷ values) w all q =
        let here = row_test v w (known_at (v ∷ values) all 0) q in
        let rest = rows_test values w (rest_all v all) q in
        rw (here, rest) refl
      where
        rest_all : (u : Option ℤ) → All P (known (u ∷ values)) → All P (known values)
        rest_all None a = a
        rest_all (Some x) a = All-tail P x (known values) a

    groups_image : (values : List (Option ℤ)) (groups : Grouping) → AreGroups values groups → All P (known groups.values) → AreGroups (map (option_map f) values) (record { values = map (option_map f) groups.values; ranks = groups.ranks })
    groups_image values groups are all =
        let rows_all = values_all values groups are all in record {
          are = ap (map (option_map f)) are.are ∙ values_image values rows_all;
          rows = λ g low.
              let inside : g < length groups.values = omega (arith, low, length-map groups.values (option_map f)) in
              let value = get_or groups.values g None in
              are.rows g inside ∙ sym (rows_test values value rows_all (known_at groups.values all g))
              ∙ ap (λ w. map (λ v. is_same v w) (map (option_map f) values)) (sym (get_or-map (option_map f) groups.values g None None inside));
        }

-- greater indices have greater entries
climbs_at : (entries : List ℤ) → IsAscending entries → (x y : ℤ) → IsIndexOf entries x → IsIndexOf entries y → x <ℤ y → entry_of entries x <ℤ entry_of entries y
climbs_at entries ascending x y p q less =
    let less_there : unsigned_abs x < unsigned_abs y = omega (arith, ints, p.0, less) in
    let low : unsigned_abs y < length entries = omega (arith, ints, q.0, q.1) in
    ascending (unsigned_abs x) (unsigned_abs y) less_there low

pub entries_groups : (entries : List ℤ) → IsAscending entries → (indices : List (Option ℤ)) (groups : Grouping) → AreGroups indices groups → All (IsIndexOf entries) (known groups.values)
    → AreGroups (entries_of entries indices) (record { values = entries_of entries groups.values; ranks = groups.ranks })
entries_groups entries ascending indices groups are all = groups_image (IsIndexOf entries) (entry_of entries) (climbs_at entries ascending) indices groups are all

-- indices of which the first g were replaced, one further
pub entries_more : (entries : List ℤ) (values done : List (Option ℤ)) (g : ℕ) (value : Option ℤ) → g < length values → done ≡ map (option_map (entry_of entries)) (take g values) ++ drop g values → value ≡ get_or done g value
    → set done g (option_map (entry_of entries) value) ≡ map (option_map (entry_of entries)) (take (g + 1) values) ++ drop (g + 1) values
entries_more entries values done g value low h is = map_over_more (option_map (entry_of entries)) values done g value low h is

pub length_done : (entries : List ℤ) (values done : List (Option ℤ)) (g : ℕ) → done ≡ map (option_map (entry_of entries)) (take g values) ++ drop g values → length done ≡ length values
length_done entries values done g h =
    ap length h ∙ length-append (map (option_map (entry_of entries)) (take g values)) (drop g values) ∙ ap (λ n. n + length (drop g values)) (length-map (take g values) (option_map (entry_of entries)))
    ∙ sym (length-append (take g values) (drop g values)) ∙ ap length (take-append-drop g values)

-- one that isn't replaced yet
pub value_left : (entries : List ℤ) (values done : List (Option ℤ)) (g : ℕ) (value : Option ℤ) → g < length values → done ≡ map (option_map (entry_of entries)) (take g values) ++ drop g values → value ≡ get_or done g value → value ≡ get_or values g None
value_left entries values done g value low h is =
    let front = map (option_map (entry_of entries)) (take g values) in
    let long : length front ≡ g = length-map (take g values) (option_map (entry_of entries)) ∙ omega (arith, low, length-take g values) in
    is ∙ ap (λ l. get_or l g value) (h ∙ ap (λ l. front ++ l) (drop_more values g None low)) ∙ get_or_at front (get_or values g None) (drop (g + 1) values) value g long
