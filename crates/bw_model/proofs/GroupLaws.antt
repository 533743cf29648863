-- Groups part the rows by their values.
use Rattle.std.proofs.Common.{◌≡◌, ◌∙◌, ◌+◌, ◌<◌, ◌<ℤ◌, ◌≤ℤ◌, ◌++◌, ◌||◌, ◌⊎◌, inl, inr, ℕ, ℤ, Bool, true, false, List, [], ◌∷◌, Option, Some, None, ap, arith, cond, if◌then◌else◌, is_none, length, map, refl, suc, sym, subst, zero}
use Rattle.std.specs.List.{All, AllPairs, Contains, dedup, filter, list_any, slice_index_or, sum_by}
use Rattle.std.specs.Ordering.{int_eq}
use Rattle.std.proofs.lemmas.Bool.{true≢false}
use Rattle.std.proofs.lemmas.Int.{ints}
use Rattle.std.proofs.lemmas.List.Elements.{All-cons, All-nil}
use Rattle.std.proofs.lemmas.List.Kept.{AllPairs-cons}
use Rattle.std.proofs.lemmas.List.Sums.{sum_by-cons}
use Rattle.bw_cells.specs.SetFunctions.{known, sorted}
use Rattle.bw_model.specs.Groups.{Group, group_values, groups_by, is_same, rows_having}
use Rattle.bw_model.specs.Store.{Row, Value, value_from}
use Rattle.bw_model.specs.GroupLaws.{AreTogether, IsBefore, IsInOne}
use Rattle.bw_model.proofs.Rising.{Rises, RisesFrom, dedup-has, dedup-rises, has, has-sorted, sorted-ascends}

-- membership, place by place

abbrev In : {A : Type 0} → List A → A → Type 0
In [] x = ⊥
In (y ∷ ys) x = (y ≡ x) ⊎ In ys x

in_at : {A : Type 0} (xs : List A) (x : A) (k : ℕ) → k < length xs → slice_index_or xs k x ≡ x → In xs x
in_at [] x k low at = absurd (omega (arith, low))
in_at (y ∷ ys) x zero low at = inl at
in_at (y ∷ ys) x (suc k) low at = inr (in_at ys x k (omega (arith, low)) at)

is_in : {A : Type 0} (xs : List A) (x : A) → Contains xs x → In xs x
is_in xs x there = in_at xs x there.0 there.1 there.2

contains : {A : Type 0} (xs : List A) (x : A) → In xs x → Contains xs x
contains [] x i = absurd i
contains (y ∷ ys) x i = elim i [
  | inl at ↦ (0, omega arith, at)
  | inr later ↦ let rest = contains ys x later in (suc rest.0, omega (arith, rest.1), rest.2)
]

in-map : {A B : Type 0} (f : A → B) (xs : List A) (x : A) → In xs x → In (map f xs) (f x)
in-map f [] x i = absurd i
in-map f (y ∷ ys) x i = elim i [ inl at ↦ inl (ap f at) | inr later ↦ inr (in-map f ys x later) ]

from-map : {A B : Type 0} (f : A → B) (xs : List A) (y : B) → In (map f xs) y → (x : A) × In xs x × (f x ≡ y)
from-map f [] y i = absurd i
from-map f (x ∷ xs) y i = elim i [
  | inl at ↦ (x, inl refl, at)
  | inr later ↦ let rest = from-map f xs y later in (rest.0, inr rest.1, rest.2)
]

in-filter : {A : Type 0} (p : A → Bool) (xs : List A) (x : A) → In xs x → p x ≡ true → In (filter p xs) x
in-filter p [] x i e = absurd i
in-filter p (y ∷ ys) x i e = by (p y) refl i (λ later. in-filter p ys x later e)
  where
    by : (b : Bool) → p y ≡ b → (y ≡ x) ⊎ In ys x → (In ys x → In (filter p ys) x) → In (cond b (y ∷ filter p ys) (filter p ys)) x
    by true g j next = elim j [ inl at ↦ inl at | inr later ↦ inr (next later) ]
    by false g j next = elim j [ inl at ↦ absurd (true≢false (sym e ∙ ap p (sym at) ∙ g)) | inr later ↦ next later ]

from-filter : {A : Type 0} (p : A → Bool) (xs : List A) (x : A) → In (filter p xs) x → p x ≡ true
from-filter p [] x i = absurd i
from-filter p (y ∷ ys) x i = by (p y) refl i (from-filter p ys x)
  where
    by : (b : Bool) → p y ≡ b → In (cond b (y ∷ filter p ys) (filter p ys)) x → (In (filter p ys) x → p x ≡ true) → p x ≡ true
    by true g j next = elim j [ inl at ↦ ap p (sym at) ∙ g | inr later ↦ next later ]
    by false g j next = next j

-- values that are the same are equal

same_is : (v w : Value) → is_same v w ≡ true → v ≡ w
same_is None None e = refl
same_is None (Some y) e = absurd (true≢false (sym e))
same_is (Some x) None e = absurd (true≢false (sym e))
same_is (Some x) (Some y) e = ap Some (grind (arith, ints, e))

is_itself : (v : Value) → is_same v v ≡ true
is_itself None = refl
is_itself (Some x) = grind (arith, ints)

-- whether a value is in a list
abbrev holds : List Value → Value → Bool
holds [] v = false
holds (w ∷ ws) v = is_same v w || holds ws v

or_right : (a b : Bool) → b ≡ true → (a || b) ≡ true
or_right true b e = refl
or_right false b e = e

or_left : (a b : Bool) → a ≡ true → (a || b) ≡ true
or_left true b e = refl
or_left false b e = absurd (true≢false (sym e))

either : (a b : Bool) → (a || b) ≡ true → (a ≡ true) ⊎ (b ≡ true)
either true b e = inl refl
either false b e = inr e

holds_in : (ws : List Value) (v : Value) → In ws v → holds ws v ≡ true
holds_in [] v i = absurd i
holds_in (w ∷ ws) v i = elim i [
  | inl at ↦ or_left (is_same v w) (holds ws v) (subst (λ u. is_same v u ≡ true) (sym at) (is_itself v))
  | inr later ↦ or_right (is_same v w) (holds ws v) (holds_in ws v later)
]

in_holds : (ws : List Value) (v : Value) → holds ws v ≡ true → In ws v
in_holds [] v e = absurd (true≢false (sym e))
in_holds (w ∷ ws) v e = elim (either (is_same v w) (holds ws v) e) [
  | inl here ↦ inl (sym (same_is v w here))
  | inr later ↦ inr (in_holds ws v later)
]

holds_known : (ws : List Value) (z : ℤ) → holds ws (Some z) ≡ has (known ws) z
holds_known [] z = refl
holds_known (None ∷ ws) z = holds_known ws z
holds_known (Some x ∷ ws) z = ap (λ b. int_eq z x || b) (holds_known ws z)

holds_null : (ws : List Value) → holds ws None ≡ list_any is_none ws
holds_null [] = refl
holds_null (None ∷ ws) = refl
holds_null (Some x ∷ ws) = holds_null ws

abbrev null_if : Bool → List Value
null_if b = if b then None ∷ [] else []

holds_shown : (zs : List ℤ) (b : Bool) (z : ℤ) → holds (map Some zs ++ null_if b) (Some z) ≡ has zs z
holds_shown [] true z = refl
holds_shown [] false z = refl
holds_shown (x ∷ zs) b z = ap (λ c. int_eq z x || c) (holds_shown zs b z)

null_shown : (zs : List ℤ) (b : Bool) → holds (map Some zs ++ null_if b) None ≡ b
null_shown [] true = refl
null_shown [] false = refl
null_shown (x ∷ zs) b = null_shown zs b

abbrev once : List Value → List ℤ
once values = dedup int_eq (sorted (known values))

-- the groups have the values of the rows
group_holds : (values : List Value) (v : Value) → holds (group_values values) v ≡ holds values v
group_holds values None = null_shown (once values) (list_any is_none values) ∙ sym (holds_null values)
group_holds values (Some z) =
    holds_shown (once values) (list_any is_none values) z ∙ dedup-has z (sorted (known values)) ∙ has-sorted z (known values) ∙ sym (holds_known values z)

-- they ascend

lower : (w x : ℤ) (zs : List ℤ) → w <ℤ x → RisesFrom x zs → RisesFrom w zs
lower w x [] h r = tt
lower w x (z ∷ zs) h r = (omega (arith, ints, h, r.0), r.1)

null_after : (w : ℤ) (b : Bool) → All (IsBefore (Some w)) (null_if b)
null_after w true = All-cons (IsBefore (Some w)) None [] tt (All-nil (IsBefore (Some w)))
null_after w false = All-nil (IsBefore (Some w))

all_after : (w : ℤ) (zs : List ℤ) (b : Bool) → RisesFrom w zs → All (IsBefore (Some w)) (map Some zs ++ null_if b)
all_after w [] b r = null_after w b
all_after w (z ∷ zs) b r = All-cons (IsBefore (Some w)) (Some z) (map Some zs ++ null_if b) r.0 (all_after w zs b (lower w z zs r.0 r.1))

null_pairs : (b : Bool) → AllPairs IsBefore (null_if b)
null_pairs true = λ i j d less low. absurd (omega (arith, less, low))
null_pairs false = λ i j d less low. absurd (omega (arith, low))

rest_rises : (x : ℤ) (zs : List ℤ) → RisesFrom x zs → Rises zs
rest_rises x [] r = tt
rest_rises x (z ∷ zs) r = r.1

pairs : (zs : List ℤ) (b : Bool) → Rises zs → AllPairs IsBefore (map Some zs ++ null_if b)
pairs [] b r = null_pairs b
pairs (z ∷ zs) b r = AllPairs-cons IsBefore (Some z) (map Some zs ++ null_if b) (all_after z zs b r) (pairs zs b (rest_rises z zs r))

module _ (place : Option ℕ) (rows : List Row) where
  abbrev values : List Value
  values = map (λ row. value_from row place) rows

  abbrev group_of : Value → Group
  group_of value = record { value = value; rows = rows_having place value rows }

  values_of : (vs : List Value) → map (λ group. group.value) (map group_of vs) ≡ vs
  values_of [] = refl
  values_of (v ∷ vs) = ap (λ l. v ∷ l) (values_of vs)

  pub ascend : AllPairs IsBefore (map (λ group. group.value) (groups_by place rows))
  ascend = subst (AllPairs IsBefore) (sym (values_of (group_values values))) (pairs (once values) (list_any is_none values) (dedup-rises (sorted (known values)) (sorted-ascends (known values))))

  -- the group of a row
  has_group : (row : Row) → Contains rows row → In (groups_by place rows) (group_of (value_from row place))
  has_group row there =
      let value = value_from row place in
      in-map group_of (group_values values) value (in_holds (group_values values) value (group_holds values value ∙ holds_in values value (in-map (λ r. value_from r place) rows row (is_in rows row there))))

  stands : (row : Row) (value : Value) → Contains rows row → value_from row place ≡ value → Contains (rows_having place value rows) row
  stands row value there e =
      contains (rows_having place value rows) row (in-filter (λ r. is_same (value_from r place) value) rows row (is_in rows row there) (subst (λ v. is_same (value_from row place) v ≡ true) e (is_itself (value_from row place))))

  -- a row that stands in a group has its value
  value_is : (group : Group) (row : Row) → In (groups_by place rows) group → Contains group.rows row → group ≡ group_of (value_from row place)
  value_is group row i inside =
      let one = from-map group_of (group_values values) group i in
      let here = subst (λ g. Contains g.rows row) (sym one.2) inside in
      let same = same_is (value_from row place) one.0 (from-filter (λ r. is_same (value_from r place) one.0) rows row (is_in (rows_having place one.0 rows) row here)) in
      sym one.2 ∙ ap group_of (sym same)

  pub in_one : (row : Row) → Contains rows row → IsInOne (groups_by place rows) row
  in_one row there = record {
    group = group_of (value_from row place);
    there = contains (groups_by place rows) (group_of (value_from row place)) (has_group row there);
    inside = stands row (value_from row place) there refl;
    only = λ other is inside. value_is other row (is_in (groups_by place rows) other is) inside;
  }

  pub same_in_group : (row other : Row) → AreTogether (groups_by place rows) row other → value_from row place ≡ value_from other place
  same_in_group row other are =
      let i = is_in (groups_by place rows) are.group are.there in
      ap (λ g. g.value) (sym (value_is are.group row i are.one) ∙ value_is are.group other i are.two)

  pub together : (row other : Row) → Contains rows row → Contains rows other → value_from row place ≡ value_from other place → AreTogether (groups_by place rows) row other
  together row other there also e = record {
    group = group_of (value_from row place);
    there = contains (groups_by place rows) (group_of (value_from row place)) (has_group row there);
    one = stands row (value_from row place) there refl;
    two = stands other (value_from row place) also (sym e);
  }

-- no row is lost, and none stands twice

abbrev times : List Value → Value → ℕ
times vs v = sum_by (λ w. cond (is_same v w) 1 0) vs

times-cons : (w : Value) (ws : List Value) (v : Value) → times (w ∷ ws) v ≡ cond (is_same v w) 1 0 + times ws v
times-cons w ws v = sum_by-cons (λ w. cond (is_same v w) 1 0) w ws

no_null : (z : ℤ) (b : Bool) → times (null_if b) (Some z) ≡ 0
no_null z true = times-cons None [] (Some z)
no_null z false = refl

none_below : (w z : ℤ) (zs : List ℤ) (b : Bool) → RisesFrom w zs → z ≤ℤ w → times (map Some zs ++ null_if b) (Some z) ≡ 0
none_below w z [] b r low = no_null z b
none_below w z (x ∷ zs) b r low =
    let other : int_eq z x ≡ false = grind (arith, ints, low, r.0) in
    let rest = none_below x z zs b r.1 (omega (arith, ints, low, r.0)) in
    let more = times-cons (Some x) (map Some zs ++ null_if b) (Some z) ∙ ap (λ c. cond c 1 0 + times (map Some zs ++ null_if b) (Some z)) other in
    omega (arith, more, rest)

once_there : (z : ℤ) (zs : List ℤ) (b : Bool) → Rises zs → has zs z ≡ true → times (map Some zs ++ null_if b) (Some z) ≡ 1
once_there z [] b r there = absurd (true≢false (sym there))
once_there z (x ∷ zs) b r there = times-cons (Some x) (map Some zs ++ null_if b) (Some z) ∙ by (int_eq z x) refl there (once_there z zs b (rest_rises x zs r))
  where
    by : (c : Bool) → int_eq z x ≡ c → (c || has zs z) ≡ true → (has zs z ≡ true → times (map Some zs ++ null_if b) (Some z) ≡ 1) → cond c 1 0 + times (map Some zs ++ null_if b) (Some z) ≡ 1
    by true e h next = let is : z ≤ℤ x = grind (arith, ints, e) in let none = none_below x z zs b r is in omega (arith, none)
    by false e h next = let one = next h in omega (arith, one)

null_once : (zs : List ℤ) (b : Bool) → b ≡ true → times (map Some zs ++ null_if b) None ≡ 1
null_once [] true e = times-cons None [] None
null_once [] false e = absurd (true≢false (sym e))
null_once (x ∷ zs) b e = let more = times-cons (Some x) (map Some zs ++ null_if b) None in let rest = null_once zs b e in omega (arith, more, rest)

value_once : (values : List Value) (v : Value) → holds values v ≡ true → times (group_values values) v ≡ 1
value_once values None there = null_once (once values) (list_any is_none values) (sym (holds_null values) ∙ there)
value_once values (Some z) there =
    once_there z (once values) (list_any is_none values) (dedup-rises (sorted (known values)) (sorted-ascends (known values)))
    (sym (holds_shown (once values) (list_any is_none values) z) ∙ group_holds values (Some z) ∙ there)

module _ (place : Option ℕ) where
  one_more : (b : Bool) (row : Row) (rows : List Row) → length (cond b (row ∷ rows) rows) ≡ cond b 1 0 + length rows
  one_more true row rows = omega arith
  one_more false row rows = omega arith

  row_more : (row : Row) (rows : List Row) (vs : List Value)
      → sum_by (λ v. length (rows_having place v (row ∷ rows))) vs ≡ times vs (value_from row place) + sum_by (λ v. length (rows_having place v rows)) vs
  row_more row rows [] = omega arith
  row_more row rows (v ∷ vs) =
      let rest = row_more row rows vs in
      let here = one_more (is_same (value_from row place) v) row (rows_having place v rows) in
      let whole = sum_by-cons (λ w. length (rows_having place w (row ∷ rows))) v vs in
      let fewer = sum_by-cons (λ w. length (rows_having place w rows)) v vs in
      let one = times-cons v vs (value_from row place) in
      omega (arith, rest, here, whole, fewer, one)

  no_rows : (vs : List Value) → sum_by (λ v. length (rows_having place v [])) vs ≡ 0
  no_rows [] = refl
  no_rows (v ∷ vs) = let more = sum_by-cons (λ w. length (rows_having place w [])) v vs in let rest = no_rows vs in omega (arith, more, rest)

  all_rows : (vs : List Value) (rows : List Row) → ((row : Row) → In rows row → times vs (value_from row place) ≡ 1) → sum_by (λ v. length (rows_having place v rows)) vs ≡ length rows
  all_rows vs [] each = no_rows vs
  all_rows vs (row ∷ rows) each =
      let rest = all_rows vs rows (λ other later. each other (inr later)) in
      let here = each row (inl refl) in
      let more = row_more row rows vs in
      omega (arith, rest, here, more)

  of_groups : (rows : List Row) (vs : List Value) → sum_by (λ group. length group.rows) (map (group_of place rows) vs) ≡ sum_by (λ v. length (rows_having place v rows)) vs
  of_groups rows [] = refl
  of_groups rows (v ∷ vs) =
      sum_by-cons (λ group. length group.rows) (group_of place rows v) (map (group_of place rows) vs)
      ∙ ap (λ n. length (rows_having place v rows) + n) (of_groups rows vs)
      ∙ sym (sum_by-cons (λ w. length (rows_having place w rows)) v vs)

  pub as_many : (rows : List Row) → sum_by (λ group. length group.rows) (groups_by place rows) ≡ length rows
  as_many rows =
      let found = values place rows in
      of_groups rows (group_values found)
      ∙ all_rows (group_values found) rows (λ row i. value_once found (value_from row place) (holds_in found (value_from row place) (in-map (λ r. value_from r place) rows row i)))
