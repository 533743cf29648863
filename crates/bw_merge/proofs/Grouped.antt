-- The groups of two lists.
use Rattle.std.proofs.Common.{Bool, List, None, Option, Some, [], ap, append-nil, arith, cond, false, if◌then◌else◌, is_none, map, refl}
use Rattle.std.proofs.Common.{suc, sym, true, ℕ, ℤ, ◌++◌, ◌||◌, ◌≡◌, ◌<ℤ◌, ◌≤ℤ◌, ◌∙◌, ◌∷◌}
use Rattle.std.specs.List.{dedup, list_any}
use Rattle.std.specs.Ordering.{int_eq}
use Rattle.std.proofs.lemmas.Bool.{true≢false}
use Rattle.std.proofs.lemmas.Int.{by_lt_z, ints}
use Rattle.std.proofs.lemmas.List.{map-append}
use Rattle.std.proofs.lemmas.List.Elements.{filter-append, filter_map-append}
use Rattle.std.proofs.lemmas.List.Folds.{list_any-append}
use Rattle.bw_cells.specs.SetFunctions.{known, sorted}
use Rattle.bw_sql.specs.declared.tree.SelectItem.{SelectItem}
use Rattle.bw_sql.specs.declared.tree.SelectItem.TheVariants as item
use Rattle.bw_model.specs.Groups.{Group, group_values, groups_by, is_same, rows_having}
use Rattle.bw_model.specs.Select.{lines_for, said_in, shown, shown_items}
use Rattle.bw_model.specs.Store.{Header, Row, Value, place_of, value_from}
use Rattle.bw_model.specs.declared.answer.Cell.{Cell}
use Rattle.bw_model.proofs.Rising.{Rises, RisesFrom, dedup-has, dedup-rises, has, has-sorted, sorted-ascends}
use Rattle.bw_merge.specs.GroupLaws.{FirstGroupStays, GroupItemsMerge, GroupLinesMerge, GroupedAnswersAreLines, GroupedAnswersMerge}
use Rattle.bw_merge.specs.GroupLaws.{HasNoGroup}
use Rattle.bw_merge.specs.GroupLaws.{RowsOfValueFollow, SecondGroupStays, ValuesMerge}
use Rattle.bw_merge.specs.Merging.{GroupLine, found_in, group_line, group_lines, group_of, group_of_both, is_median, line_at, line_of_both}
use Rattle.bw_merge.specs.Merging.{merged, merged_groups, merged_line, merged_lines, rows_at}
use Rattle.bw_merge.proofs.Items.{cells_merge, found_follow, items_merge, or_first, or_second}

-- what rises is told by what it has

none_below : (z x : ℤ) (xs : List ℤ) → z ≤ℤ x → RisesFrom x xs → has xs z ≡ false
none_below z x [] h r = refl
none_below z x (y ∷ ys) h r =
    let not_here : int_eq z y ≡ false = grind (arith, ints, h, r.0) in
    ap (λ b. b || has ys z) not_here ∙ none_below z y ys (omega (arith, ints, h, r.0)) r.1

itself : (x : ℤ) → int_eq x x ≡ true
itself x = grind (arith, ints)

has_itself : (x : ℤ) (xs : List ℤ) → has (x ∷ xs) x ≡ true
has_itself x xs = ap (λ b. b || has xs x) (itself x)

lacks_less : (z y : ℤ) (ys : List ℤ) → z <ℤ y → RisesFrom y ys → has (y ∷ ys) z ≡ false
lacks_less z y ys h r =
    let not_here : int_eq z y ≡ false = grind (arith, ints, h) in
    ap (λ b. b || has ys z) not_here ∙ none_below z y ys (omega (arith, ints, h)) r

rest_rises : (x : ℤ) (xs : List ℤ) → RisesFrom x xs → Rises xs
rest_rises x [] r = tt
rest_rises x (y ∷ ys) r = r.1

told_by : (xs ys : List ℤ) → Rises xs → Rises ys → ((z : ℤ) → has xs z ≡ has ys z) → xs ≡ ys
told_by [] [] r s same = refl
told_by [] (y ∷ ys) r s same = absurd (true≢false (sym (has_itself y ys) ∙ sym (same y)))
told_by (x ∷ xs) [] r s same = absurd (true≢false (sym (has_itself x xs) ∙ same x))
told_by (x ∷ xs) (y ∷ ys) r s same =
    ap (λ z. z ∷ xs) first ∙ ap (λ l. y ∷ l) (told_by xs ys (rest_rises x xs r) (rest_rises y ys s) later)
  where
    not_above : x ≤ℤ y
    not_above = by_lt_z y x (λ less. absurd (true≢false (sym (has_itself y ys) ∙ sym (same y) ∙ lacks_less y x xs less r))) (λ h. h)

    not_below : y ≤ℤ x
    not_below = by_lt_z x y (λ less. absurd (true≢false (sym (has_itself x xs) ∙ same x ∙ lacks_less x y ys less s))) (λ h. h)

    first : x ≡ y
    first = omega (arith, ints, not_above, not_below)

    by : (z : ℤ) (a b : Bool) → int_eq z x ≡ a → int_eq z y ≡ b → (a || has xs z) ≡ (b || has ys z) → has xs z ≡ has ys z
    by z true b e f h =
        let under : z ≤ℤ x = grind (arith, ints, e) in
        let under_other : z ≤ℤ y = omega (arith, ints, under, not_above) in
        none_below z x xs under r ∙ sym (none_below z y ys under_other s)
    by z false true e f h =
        let under_other : z ≤ℤ y = grind (arith, ints, f) in
        let under : z ≤ℤ x = omega (arith, ints, under_other, not_below) in
        none_below z x xs under r ∙ sym (none_below z y ys under_other s)
    by z false false e f h = h

    later : (z : ℤ) → has xs z ≡ has ys z
    later z = by z (int_eq z x) (int_eq z y) refl refl (same z)

-- the values of groups are told by the values and whether NULL is among them

abbrev once : List Value → List ℤ
once values = dedup int_eq (sorted (known values))

once_rises : (values : List Value) → Rises (once values)
once_rises values = dedup-rises (sorted (known values)) (sorted-ascends (known values))

once_has : (values : List Value) (z : ℤ) → has (once values) z ≡ has (known values) z
once_has values z = dedup-has z (sorted (known values)) ∙ has-sorted z (known values)

abbrev null_if : Bool → List Value
null_if b = if b then None ∷ [] else []

values_told : (values others : List Value)
    → ((z : ℤ) → has (known values) z ≡ has (known others) z)
    → list_any is_none values ≡ list_any is_none others → group_values values ≡ group_values others
values_told values others same nulls =
    ap (λ zs. map Some zs ++ null_if (list_any is_none values))
    (told_by (once values) (once others) (once_rises values) (once_rises others)
    (λ z. once_has values z ∙ same z ∙ sym (once_has others z)))
    ∙ ap (λ b. map Some (once others) ++ null_if b) nulls

grouped : (a b c : Bool) → (a || (b || c)) ≡ ((a || b) || c)
grouped true b c = refl
grouped false b c = refl

has-append : (z : ℤ) (xs ys : List ℤ) → has (xs ++ ys) z ≡ (has xs z || has ys z)
has-append z [] ys = refl
has-append z (x ∷ xs) ys = ap (λ b. int_eq z x || b) (has-append z xs ys) ∙ grouped (int_eq z x) (has xs z) (has ys z)

known-append : (values more : List Value) → known (values ++ more) ≡ known values ++ known more
known-append values more = filter_map-append (λ value. value) values more

known_shown : (zs : List ℤ) (b : Bool) → known (map Some zs ++ null_if b) ≡ zs
known_shown [] true = refl
known_shown [] false = refl
known_shown (z ∷ zs) b = ap (λ l. z ∷ l) (known_shown zs b)

null_shown : (zs : List ℤ) (b : Bool) → list_any is_none (map Some zs ++ null_if b) ≡ b
null_shown [] true = refl
null_shown [] false = refl
null_shown (z ∷ zs) b = null_shown zs b

has_grouped : (values : List Value) (z : ℤ) → has (known (group_values values)) z ≡ has (known values) z
has_grouped values z = ap (λ l. has l z) (known_shown (once values) (list_any is_none values)) ∙ once_has values z

null_grouped : (values : List Value) → list_any is_none (group_values values) ≡ list_any is_none values
null_grouped values = null_shown (once values) (list_any is_none values)

has_both : (values more : List Value) (z : ℤ) → has (known (values ++ more)) z ≡ (has (known values) z || has (known more) z)
has_both values more z = ap (λ l. has l z) (known-append values more) ∙ has-append z (known values) (known more)

pub values_merge : ValuesMerge
values_merge values more =
    values_told (values ++ more) (group_values values ++ group_values more)
    (λ z.
    has_both values more z
    ∙ ap (λ b. b || has (known more) z) (sym (has_grouped values z))
    ∙ ap (λ b. has (known (group_values values)) z || b) (sym (has_grouped more z))
    ∙ sym (has_both (group_values values) (group_values more) z))
    (list_any-append is_none values more
    ∙ ap (λ b. b || list_any is_none more) (sym (null_grouped values))
    ∙ ap (λ b. list_any is_none (group_values values) || b) (sym (null_grouped more))
    ∙ sym (list_any-append is_none (group_values values) (group_values more)))

-- the rows of a value

pub rows_follow : RowsOfValueFollow
rows_follow place value rows more = filter-append (λ row. is_same (value_from row place) value) rows more

-- whether a value is in a list
abbrev holds : List Value → Value → Bool
holds [] v = false
holds (w ∷ ws) v = is_same w v || holds ws v

same_is : (v w : Value) → is_same v w ≡ true → v ≡ w
same_is None None e = refl
same_is None (Some y) e = absurd cc
same_is (Some x) None e = absurd cc
same_is (Some x) (Some y) e = ap Some (grind (arith, ints, e))

turned : (x z : ℤ) → int_eq x z ≡ int_eq z x
turned x z = by (int_eq x z) (int_eq z x) refl refl
  where
    by : (a b : Bool) → int_eq x z ≡ a → int_eq z x ≡ b → a ≡ b
    by true true e f = refl
    by true false e f = grind (arith, ints, e, f)
    by false true e f = grind (arith, ints, e, f)
    by false false e f = refl

holds_known : (ws : List Value) (z : ℤ) → holds ws (Some z) ≡ has (known ws) z
holds_known [] z = refl
holds_known (None ∷ ws) z = holds_known ws z
holds_known (Some x ∷ ws) z = ap (λ b. b || holds ws (Some z)) (turned x z) ∙ ap (λ b. int_eq z x || b) (holds_known ws z)

holds_null : (ws : List Value) → holds ws None ≡ list_any is_none ws
holds_null [] = refl
holds_null (None ∷ ws) = refl
holds_null (Some x ∷ ws) = holds_null ws

holds_grouped : (values : List Value) (v : Value) → holds (group_values values) v ≡ holds values v
holds_grouped values None = holds_null (group_values values) ∙ null_grouped values ∙ sym (holds_null values)
holds_grouped values (Some z) = holds_known (group_values values) z ∙ has_grouped values z ∙ sym (holds_known values z)

holds-append : (vs ws : List Value) (v : Value) → holds (vs ++ ws) v ≡ (holds vs v || holds ws v)
holds-append [] ws v = refl
holds-append (u ∷ vs) ws v = ap (λ b. is_same u v || b) (holds-append vs ws v) ∙ grouped (is_same u v) (holds vs v) (holds ws v)

is_itself : (v : Value) → is_same v v ≡ true
is_itself None = refl
is_itself (Some x) = itself x

each_same : {B : Type 0} (f g : Value → B) (ws : List Value) → ((v : Value) → holds ws v ≡ true → f v ≡ g v) → map f ws ≡ map g ws
each_same f g [] same = refl
each_same f g (w ∷ ws) same =
    ap (λ one. one ∷ map f ws) (same w (ap (λ b. b || holds ws w) (is_itself w)))
    ∙ ap (λ l. g w ∷ l) (each_same f g ws (λ v there. same v (or_right (is_same w v) (holds ws v) there)))
  where
    or_right : (a b : Bool) → b ≡ true → (a || b) ≡ true
    or_right true b e = refl
    or_right false b e = e

map_twice : {A B C : Type 0} (f : B → C) (g : A → B) (xs : List A) → map f (map g xs) ≡ map (λ x. f (g x)) xs
map_twice f g [] = refl
map_twice f g (x ∷ xs) = ap (λ l. f (g x) ∷ l) (map_twice f g xs)

module _ (place : Option ℕ) where
  abbrev values_of : List Row → List Value
  values_of rows = map (λ row. value_from row place) rows

  abbrev of_value : List Row → Value → Group
  of_value rows value = group_of value (rows_having place value rows)

  no_rows : (value : Value) (rows : List Row) → holds (values_of rows) value ≡ false → rows_having place value rows ≡ []
  no_rows value [] none = refl
  no_rows value (row ∷ rows) none =
      let first = or_first (is_same (value_from row place) value) (holds (values_of rows) value) none in
      let later = or_second (is_same (value_from row place) value) (holds (values_of rows) value) none in
      ap (λ b. cond b (row ∷ rows_having place value rows) (rows_having place value rows)) first ∙ no_rows value rows later

  -- the rows that groups of these values have for a value
  at_values : (rows : List Row) (value : Value) (ws : List Value)
      → rows_at value (map (of_value rows) ws) ≡ cond (holds ws value) (rows_having place value rows) []
  at_values rows value [] = refl
  at_values rows value (w ∷ ws) = by (is_same w value) refl (at_values rows value ws)
    where
      by : (b : Bool) → is_same w value ≡ b → rows_at value (map (of_value rows) ws)
          ≡ cond (holds ws value) (rows_having place value rows) []
          → cond b (rows_having place w rows) (rows_at value (map (of_value rows) ws))
          ≡ cond (b || holds ws value) (rows_having place value rows) []
      by true e rest = ap (λ v. rows_having place v rows) (same_is w value e)
      by false e rest = rest

  pub rows_at_groups : (value : Value) (rows : List Row) → rows_at value (groups_by place rows) ≡ rows_having place value rows
  rows_at_groups value rows =
      at_values rows value (group_values (values_of rows))
      ∙ ap (λ b. cond b (rows_having place value rows) []) (holds_grouped (values_of rows) value)
      ∙ by (holds (values_of rows) value) refl
    where
      by : (b : Bool) → holds (values_of rows) value ≡ b → cond b (rows_having place value rows) [] ≡ rows_having place value rows
      by true e = refl
      by false e = sym (no_rows value rows e)

  values_again : (rows : List Row) (ws : List Value) → map (λ group. group.value) (map (of_value rows) ws) ≡ ws
  values_again rows [] = refl
  values_again rows (w ∷ ws) = ap (λ l. w ∷ l) (values_again rows ws)

  values_of_groups : (rows more : List Row)
      → map (λ group. group.value) (groups_by place rows ++ groups_by place more)
      ≡ group_values (values_of rows) ++ group_values (values_of more)
  values_of_groups rows more =
      map-append (λ group. group.value) (groups_by place rows) (groups_by place more)
      ∙ ap (λ front. front ++ map (λ group. group.value) (groups_by place more)) (values_again rows (group_values (values_of rows)))
      ∙ ap (λ back. group_values (values_of rows) ++ back) (values_again more (group_values (values_of more)))

  pub groups_merge : (rows more : List Row) → groups_by place (rows ++ more) ≡ merged_groups (groups_by place rows) (groups_by place more)
  groups_merge rows more =
      let groups = groups_by place rows in
      let others = groups_by place more in
      each_same (of_value (rows ++ more)) (group_of_both groups others) (group_values (values_of (rows ++ more)))
      (λ value there.
      ap (group_of value)
      (rows_follow place value rows more
      ∙ ap (λ front. front ++ rows_having place value more) (sym (rows_at_groups value rows))
      ∙ ap (λ back. rows_at value groups ++ back) (sym (rows_at_groups value more))))
      ∙ ap (map (group_of_both groups others))
      (ap group_values (map-append (λ row. value_from row place) rows more)
      ∙ values_merge (values_of rows) (values_of more)
      ∙ ap group_values (sym (values_of_groups rows more)))

-- a value that no group has

none_at : (groups : List Group) (value : Value) → HasNoGroup groups value → rows_at value groups ≡ []
none_at [] value none = refl
none_at (group ∷ groups) value none =
    by (is_same group.value value) refl (none_at groups value (λ other there. none other (suc there.0, omega (arith, there.1), there.2)))
  where
    by : (b : Bool) → is_same group.value value ≡ b → rows_at value groups ≡ [] → cond b group.rows (rows_at value groups) ≡ []
    by true e rest = absurd (none group (0, omega arith, refl) (same_is group.value value e))
    by false e rest = rest

pub first_stays : FirstGroupStays
first_stays groups others value none =
    ap (group_of value) (ap (λ back. rows_at value groups ++ back) (none_at others value none) ∙ append-nil (rows_at value groups))

pub second_stays : SecondGroupStays
second_stays groups others value none = ap (λ front. group_of value (front ++ rows_at value others)) (none_at groups value none)

-- what is said of a group

same_shown : (name : List ℕ) (value : Value) → shown value ≡ merged (item.Column name) (shown value) (shown value)
same_shown name None = refl
same_shown name (Some x) = refl

pub group_items_merge : GroupItemsMerge
group_items_merge headers value (item.Column name) free rows more = same_shown name value
group_items_merge headers value item.CountRows free rows more = items_merge headers item.CountRows free rows more
group_items_merge headers value (item.Function f name) free rows more = items_merge headers (item.Function f name) free rows more

-- lines of groups

module _ (headers : List Header) (list : List SelectItem) where
  abbrev line_for : Value → List Row → List Cell
  line_for value rows = map (said_in headers (group_of value rows)) list

  abbrev lines_in : List Group → List GroupLine
  lines_in groups = map (group_line headers list) groups

  abbrev values_in : List Group → List Value
  values_in groups = map (λ group. group.value) groups

  -- the line that is found for a value, and the rows of its group
  found_line : (value : Value) (groups : List Group)
      → line_at value (lines_in groups) ≡ (if holds (values_in groups) value then Some (line_for value (rows_at value groups)) else None)
  found_line value [] = refl
  found_line value (group ∷ groups) = by (is_same group.value value) refl (found_line value groups)
    where
      by : (b : Bool) → is_same group.value value ≡ b
          → line_at value (lines_in groups)
          ≡ (if holds (values_in groups) value then Some (line_for value (rows_at value groups)) else None)
          → (if b then Some (line_for group.value group.rows) else line_at value (lines_in groups))
          ≡ (if b || holds (values_in groups) value then Some (line_for value (if b then group.rows else rows_at value groups)) else None)
      by true e rest = ap (λ v. Some (line_for v group.rows)) (same_is group.value value e)
      by false e rest = rest

  no_group : (value : Value) (groups : List Group) → holds (values_in groups) value ≡ false → rows_at value groups ≡ []
  no_group value [] none = refl
  no_group value (group ∷ groups) none =
      let first = or_first (is_same group.value value) (holds (values_in groups) value) none in
      let later = or_second (is_same group.value value) (holds (values_in groups) value) none in
      ap (λ b. if b then group.rows else rows_at value groups) first ∙ no_group value groups later

  module _ (free : list_any is_median list ≡ false) where
    line_merges : (value : Value) (rows more : List Row) → line_for value (rows ++ more)
        ≡ merged_line list (line_for value rows) (line_for value more)
    line_merges value rows more =
        cells_merge (said_in headers (group_of value (rows ++ more))) (said_in headers (group_of value rows))
        (said_in headers (group_of value more))
        (λ it plain. group_items_merge headers value it plain rows more) list free

    either_line : (value : Value) (groups others : List Group) (a b : Bool)
        → holds (values_in groups) value ≡ a → holds (values_in others) value ≡ b → (a || b) ≡ true
        → line_for value (rows_at value groups ++ rows_at value others)
        ≡ line_of_both list (if a then Some (line_for value (rows_at value groups)) else None)
        (if b then Some (line_for value (rows_at value others)) else None)
    either_line value groups others true true e f some = line_merges value (rows_at value groups) (rows_at value others)
    either_line value groups others true false e f some =
        ap (λ back. line_for value (rows_at value groups ++ back)) (no_group value others f)
        ∙ ap (line_for value) (append-nil (rows_at value groups))
    either_line value groups others false true e f some =
        ap (λ front. line_for value (front ++ rows_at value others)) (no_group value groups e)
    either_line value groups others false false e f some = absurd cc

    the_line : (value : Value) (groups others : List Group) → holds (group_values (values_in (groups ++ others))) value ≡ true
        → line_for value (rows_at value groups ++ rows_at value others)
        ≡ line_of_both list (line_at value (lines_in groups)) (line_at value (lines_in others))
    the_line value groups others there =
        let a = holds (values_in groups) value in
        let b = holds (values_in others) value in
        let some =
        sym (holds-append (values_in groups) (values_in others) value)
        ∙ ap (λ l. holds l value) (sym (map-append (λ group. group.value) groups others))
        ∙ sym (holds_grouped (values_in (groups ++ others)) value)
        ∙ there in
        either_line value groups others a b refl refl some
        ∙ ap (λ other. line_of_both list (if a then Some (line_for value (rows_at value groups)) else None) other)
        (sym (found_line value others))
        ∙ ap (λ one. line_of_both list one (line_at value (lines_in others))) (sym (found_line value groups))

    values_of_lines : (groups others : List Group) → values_in (groups ++ others)
        ≡ map (λ line. line.0) (lines_in groups ++ lines_in others)
    values_of_lines groups others =
        sym (map_twice (λ (line : GroupLine). line.0) (group_line headers list) (groups ++ others))
        ∙ ap (map (λ (line : GroupLine). line.0)) (map-append (group_line headers list) groups others)

    lines_of_groups : (groups others : List Group) → lines_in (merged_groups groups others)
        ≡ merged_lines list (lines_in groups) (lines_in others)
    lines_of_groups groups others =
        let line = λ (value : Value). let one : GroupLine =
        (value, line_of_both list (line_at value (lines_in groups)) (line_at value (lines_in others))) in one in
        map_twice (group_line headers list) (group_of_both groups others) (group_values (values_in (groups ++ others)))
        ∙ each_same (λ value. group_line headers list (group_of_both groups others value)) line
        (group_values (values_in (groups ++ others)))
        (λ value there. ap (λ (cells : List Cell). let one : GroupLine = (value, cells) in one) (the_line value groups others there))
        ∙ ap (λ values. map line (group_values values)) (values_of_lines groups others)

pub group_lines_merge : GroupLinesMerge
group_lines_merge headers list place rows more free =
    ap (map (group_line headers list)) (groups_merge place rows more)
    ∙ lines_of_groups headers list free (groups_by place rows) (groups_by place more)

pub answers_are_lines : GroupedAnswersAreLines
answers_are_lines headers query name rows grouped =
    let list = shown_items headers query.items in
    let found = found_in headers query.condition rows in
    ap (λ g. lines_for headers list g found) grouped
    ∙ sym (map_twice (λ (line : GroupLine). line.1) (group_line headers list) (groups_by (place_of headers name) found))

pub grouped_answers_merge : GroupedAnswersMerge
grouped_answers_merge headers query name rows more free =
    let list = shown_items headers query.items in
    let one = found_in headers query.condition rows in
    let two = found_in headers query.condition more in
    ap (group_lines headers list (place_of headers name)) (found_follow headers query.condition rows more)
    ∙ group_lines_merge headers list (place_of headers name) one two free
