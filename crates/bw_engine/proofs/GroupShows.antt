-- What is shown of groups, by the place of each row's group.
use Rattle.std.proofs.Common.{Bool, Contains, if◌then◌else◌, List, None, Some, [], ap, append_assoc, arith, cond, count_by, false, get_or, length, map, pos, refl, suc, sym, take, true, zero, ℕ, ℤ, ◌++◌, ◌+◌, ◌<◌, ◌==◌, ◌≡◌, ◌≤◌, ◌∙◌, ◌∷◌}
use Rattle.std.specs.List.{All, filter, items_where_true}
use Rattle.std.proofs.lemmas.List.{append-nil, length-map, map-append, take_all, take_more}
use Rattle.bw_aggregate.proofs.Counting.{count_cons}
use Rattle.bw_aggregate.specs.Summaries.{IsSummary}
use Rattle.bw_aggregate.specs.declared.summary.Asked.{Asked}
use Rattle.bw_aggregate.specs.declared.summary.Summary.{Summary}
use Rattle.bw_cells.specs.SetFunctions.{greatest, known, least, median, sum}
use Rattle.bw_groups.specs.Grouping.{AreGroups, Grouping, members, rows_in}
use Rattle.bw_model.specs.Groups.{Group, group_values, groups_by, is_same, rows_having}
use Rattle.bw_model.specs.Store.{Row, Value, value_at}
use Rattle.bw_model.specs.declared.answer.Cell.{Cell}
use Rattle.bw_sql.specs.Rows.{joined}
use Rattle.bw_plan.specs.declared.grouping.GroupItem.{GroupItem}
use Rattle.bw_plan.specs.declared.grouping.GroupItem.TheVariants as grouped
use Rattle.bw_plan.specs.declared.select.FunctionPlan.TheVariants as function
use Rattle.bw_engine.specs.Folds.{number_of, told_by, told_in}
use Rattle.bw_engine.specs.GroupLines.{AskForItems, cells_to, column_in, told_at}
use Rattle.bw_sql.specs.declared.tree.SetFunction.{SetFunction}
use Rattle.bw_sql.specs.declared.tree.SetFunction.TheVariants.{Count, Max, Median, Min, Sum}
use Rattle.bw_engine.specs.Found.{rows_where}
use Rattle.bw_model.proofs.Lines.{All-map}
use Rattle.bw_model.specs.Select.{shown}

-- the values of one column, line after line
pub joined_singles : (rows : List Row) (place : ℕ) → joined (map (λ row. map (λ p. value_at row p) (place ∷ [])) rows) ≡ column_in rows place
joined_singles [] place = refl
joined_singles (row ∷ rows) place = ap (λ l. value_at row place ∷ l) (joined_singles rows place)

rows_of_group : {R A : Type 0} (test : R → Bool) (f : R → A) (rows : List R) → items_where_true (map test rows) (map f rows) ≡ map f (filter test rows)
rows_of_group test f [] = refl
rows_of_group test f (row ∷ rows) = by (test row) (rows_of_group test f rows)
  where
    by : (b : Bool) → items_where_true (map test rows) (map f rows) ≡ map f (filter test rows) → items_where_true (b ∷ map test rows) (f row ∷ map f rows) ≡ map f (cond b (row ∷ filter test rows) (filter test rows))
    by true rest = ap (λ xs. f row ∷ xs) rest
    by false rest = rest

map_twice : {A B C : Type 0} (f : A → B) (g : B → C) (xs : List A) → map g (map f xs) ≡ map (λ x. g (f x)) xs
map_twice f g [] = refl
map_twice f g (x ∷ xs) = ap (λ ys. g (f x) ∷ ys) (map_twice f g xs)

count_mapped : {A : Type 0} (p : A → Bool) (xs : List A) → count_by p xs ≡ count_by (λ b. b) (map p xs)
count_mapped p [] = refl
count_mapped p (x ∷ xs) = count_cons p x xs ∙ ap (λ n. cond (p x) 1 0 + n) (count_mapped p xs) ∙ sym (count_cons (λ b. b) (p x) (map p xs))

count_filtered : {A : Type 0} (test : A → Bool) (xs : List A) → count_by (λ b. b) (map test xs) ≡ length (filter test xs)
count_filtered test [] = refl
count_filtered test (x ∷ xs) = let one = count_cons (λ b. b) (test x) (map test xs) in by (test x) one (count_filtered test xs)
  where
    by : (b : Bool) → count_by (λ c. c) (test x ∷ map test xs) ≡ cond b 1 0 + count_by (λ c. c) (map test xs) → count_by (λ c. c) (map test xs) ≡ length (filter test xs) → count_by (λ c. c) (test x ∷ map test xs) ≡ length (cond b (x ∷ filter test xs) (filter test xs))
    by true one rest = omega (arith, one, rest)
    by false one rest = omega (arith, one, rest)

module _ (by : ℕ) (rows : List Row) (groups : Grouping) (are : AreGroups (column_in rows by) groups) where
  -- group g
  abbrev value_of : ℕ → Value
  value_of g = get_or groups.values g None

  abbrev test : ℕ → Row → Bool
  test g row = is_same (value_at row by) (value_of g)

  abbrev group_of : Value → Group
  group_of value = record { value = value; rows = rows_having (Some by) value rows }

  marks : (g : ℕ) → g < length groups.values → map (λ r. r == g) groups.ranks ≡ map (test g) rows
  marks g low = are.rows g low ∙ map_twice (λ row. value_at row by) (λ value. is_same value (value_of g)) rows

  members_are : (g place : ℕ) → g < length groups.values → members groups.ranks (column_in rows place) g ≡ map (λ row. value_at row place) (rows_having (Some by) (value_of g) rows)
  members_are g place low = ap (λ bits. items_where_true bits (column_in rows place)) (marks g low) ∙ rows_of_group (test g) (λ row. value_at row place) rows

  count_is : (g : ℕ) → g < length groups.values → rows_in groups.ranks g ≡ length (rows_having (Some by) (value_of g) rows)
  count_is g low = count_mapped (λ r. r == g) groups.ranks ∙ ap (count_by (λ b. b)) (marks g low) ∙ count_filtered (test g) rows

  item_is : (g : ℕ) → g < length groups.values → (item : GroupItem) → told_at rows groups g item ≡ told_in (group_of (value_of g)) item
  item_is g low grouped.Value = refl
  item_is g low (grouped.Function function.CountRows) = ap (λ n. shown (Some (pos n))) (count_is g low)
  item_is g low (grouped.Function (function.Of f place)) = ap (λ values. shown (number_of f (known values))) (members_are g place low)

  line_is : (g : ℕ) → g < length groups.values → (items : List GroupItem) → map (told_at rows groups g) items ≡ map (told_in (group_of (value_of g))) items
  line_is g low [] = refl
  line_is g low (item ∷ items) = ap (λ c. c ∷ map (told_at rows groups g) items) (item_is g low item) ∙ ap (λ l. told_in (group_of (value_of g)) item ∷ l) (line_is g low items)

  joined_push : (lines : List (List Cell)) (line : List Cell) → joined (lines ++ line ∷ []) ≡ joined lines ++ line
  joined_push [] line = append-nil line
  joined_push (first ∷ lines) line = ap (λ l. first ++ l) (joined_push lines line) ∙ sym (append_assoc first (joined lines) line)

  module _ (items : List GroupItem) where
    abbrev line : Value → List Cell
    line value = map (told_in (group_of value)) items

    cells_are : (n : ℕ) → n ≤ length groups.values → cells_to rows groups items n ≡ joined (map line (take n groups.values))
    cells_are zero low = none groups.values
      where
        none : (values : List Value) → [] ≡ joined (map line (take 0 values))
        none [] = refl
        none (v ∷ values) = refl
    cells_are (suc n) low =
        let there : n < length groups.values = omega (arith, low) in
        let next : suc n ≡ n + 1 = omega arith in
        ap (λ l. l ++ map (told_at rows groups n) items) (cells_are n (omega (arith, low)))
        ∙ ap (λ l. joined (map line (take n groups.values)) ++ l) (line_is n there items)
        ∙ sym (joined_push (map line (take n groups.values)) (line (value_of n)))
        ∙ ap joined (sym (map-append line (take n groups.values) (value_of n ∷ [])))
        ∙ ap (λ vs. joined (map line vs)) (sym (take_more groups.values n None there) ∙ ap (λ m. take m groups.values) (sym next))

    -- all of them are those of the groups as they are defined
    pub cells_of_all : cells_to rows groups items (length groups.values) ≡ joined (map (λ group. map (told_in group) items) (groups_by (Some by) rows))
    cells_of_all =
        cells_are (length groups.values) (omega arith)
        ∙ ap (λ vs. joined (map line vs)) (take_all (length groups.values) groups.values (omega arith) ∙ are.are)
        ∙ ap joined (sym (map_twice group_of (λ group. map (told_in group) items) (group_values (column_in rows by))))

-- no more rows are found than there are
pub rows_few : {A : Type 0} (p : ℕ → Bool) (rows : List A) → length (rows_where p rows) ≤ length rows
rows_few p [] = omega arith
rows_few p (row ∷ rows) = by (p 0) (rows_few (λ i. p (suc i)) rows)
  where
    by : (b : Bool) → length (rows_where (λ i. p (suc i)) rows) ≤ length rows → length (cond b (row ∷ rows_where (λ i. p (suc i)) rows) (rows_where (λ i. p (suc i)) rows)) ≤ suc (length rows)
    by true h = omega (arith, h)
    by false h = omega (arith, h)

-- each group's line has a cell for each item
pub group_lines_wide : (items : List GroupItem) (groups : List Group) → All (λ line. length line ≡ length items) (map (λ group. map (told_in group) items) groups)
group_lines_wide items groups = All-map (λ group. map (told_in group) items) (length items) groups (λ group. length-map items (told_in group))

-- a summary in which each item of a column is asked for tells each of them
pub tells_items : (items : List GroupItem) (place : ℕ) (asked : Asked) (summary : Summary) (values : List ℤ) → AskForItems items place asked → IsSummary asked values summary
    → (f : SetFunction) → Contains items (grouped.Function (function.Of f place)) → told_by f summary ≡ number_of f values
tells_items items place asked summary values asks is Count there = ap (λ n. Some (pos n)) is.count
tells_items items place asked summary values asks is Sum there = is.sum ∙ ap (λ (b : Bool). if b then sum values else None) (asks.sum there)
tells_items items place asked summary values asks is Min there = is.least ∙ ap (λ (b : Bool). if b then least values else None) (asks.least there)
tells_items items place asked summary values asks is Max there = is.greatest ∙ ap (λ (b : Bool). if b then greatest values else None) (asks.greatest there)
tells_items items place asked summary values asks is Median there = is.median ∙ ap (λ (b : Bool). if b then median values else None) (asks.median there)
