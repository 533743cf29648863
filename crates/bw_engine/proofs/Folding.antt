-- What set functions by places say is what the select list says.
use Rattle.std.proofs.Common.{◌≡◌, ◌∙◌, ◌+◌, ◌++◌, ◌<◌, Bool, List, None, Option, Some, [], ◌∷◌, ap, arith, count_by, false, get_or, if◌then◌else◌, length, map, option_map, pos, refl, subst, suc, sym, take, true, zero, ℕ, ℤ}
use Rattle.std.proofs.lemmas.List.{length-map, map-append, take_more}
use Rattle.std.proofs.lemmas.List.Elements.{All-cons, All-nil}
use Rattle.std.specs.List.{All, items_where_true}
use Rattle.bw_mask.specs.Masks.{MaskRows, len, row_at}
use Rattle.bw_table.specs.Slots.{Slot, column_of, slot_column}
use Rattle.bw_sql.specs.declared.tree.SelectItem.{SelectItem}
use Rattle.bw_sql.specs.declared.tree.SelectItem.TheVariants as item
use Rattle.bw_sql.specs.declared.tree.SetFunction.{SetFunction}
use Rattle.bw_sql.specs.declared.tree.SetFunction.TheVariants.{Count, Sum, Min, Max, Median}
use Rattle.bw_model.specs.Groups.{Group, groups_by}
use Rattle.bw_model.specs.Select.{columns_in, folded, lines_for, said_in, said_of, shown}
use Rattle.bw_cells.specs.SetFunctions.{greatest, known, least, median, sum}
use Rattle.bw_model.specs.Store.{Header, Row, place_of, value_at, value_from}
use Rattle.bw_model.proofs.Items.{columns_only}
use Rattle.bw_plan.specs.Selections.{ShowsBy, grouped_item, placed_item}
use Rattle.bw_plan.specs.declared.grouping.GroupItem.{GroupItem}
use Rattle.bw_plan.specs.declared.grouping.GroupItem.TheVariants as grouped
use Rattle.bw_plan.specs.declared.select.FunctionPlan.{FunctionPlan}
use Rattle.bw_plan.specs.declared.select.FunctionPlan.TheVariants as function
use Rattle.bw_plan.specs.declared.select.ShownPlan.{ShownPlan}
use Rattle.bw_plan.specs.declared.select.ShownPlan.TheVariants as plans
use Rattle.bw_plan.proofs.Places.{line_by_places}
use Rattle.bw_plan.proofs.SetLaws.{place_inside}
use Rattle.bw_aggregate.specs.Summaries.{IsSummary}
use Rattle.bw_aggregate.specs.declared.summary.Asked.{Asked}
use Rattle.bw_aggregate.specs.declared.summary.Summary.{Summary}
use Rattle.bw_engine.specs.Folds.{AskFor, IsItemWithin, IsShownWithin, IsWithin, lines_by, number_by, number_of, plan_width, told_by, told_in}
use Rattle.bw_engine.specs.Found.{rows_where}
use Rattle.bw_engine.specs.Stores.{rows_of_slots}
use Rattle.bw_engine.proofs.FoundLaws.{counted}
use Rattle.bw_engine.proofs.SetRows.{same_value}
use Rattle.bw_engine.proofs.Shows.{places_inside}

folded_is : (f : SetFunction) (values : List ℤ) → shown (number_of f values) ≡ folded f values
folded_is Count values = refl
folded_is Sum values = refl
folded_is Min values = refl
folded_is Max values = refl
folded_is Median values = refl

abbrev rest_of : {A : Type 0} → List A → List A
rest_of [] = []
rest_of (x ∷ xs) = xs

some_same : {A : Type 0} (x y : A) → Some x ≡ Some y → x ≡ y
some_same x y e = cc

module _ (headers : List Header) where
  -- a function of the column at the place of its name
  placed_says : (rows : List Row) (f : SetFunction) (name : List ℕ) (place : Option ℕ) (plan : FunctionPlan) → place_of headers name ≡ place → Some plan ≡ option_map (function.Of f) place
      → shown (number_by rows plan) ≡ said_of headers rows (item.Function f name)
  placed_says rows f name None plan at is = cc
  placed_says rows f name (Some p) plan at is =
      ap (λ o. shown (number_by rows o)) (some_same plan (function.Of f p) is)
      ∙ folded_is f (known (map (λ row. value_at row p) rows))
      ∙ ap (λ o. folded f (known (map (λ row. value_from row o) rows))) (sym at)

  item_says : (rows : List Row) (one : SelectItem) (plan : FunctionPlan) → Some plan ≡ placed_item headers one → shown (number_by rows plan) ≡ said_of headers rows one
  item_says rows (item.Column name) plan is = cc
  item_says rows item.CountRows plan is = ap (λ o. shown (number_by rows o)) (some_same plan function.CountRows is)
  item_says rows (item.Function f name) plan is = placed_says rows f name (place_of headers name) plan refl is

  functions_say : (rows : List Row) (list : List SelectItem) (functions : List FunctionPlan) → map (λ f. Some f) functions ≡ map (placed_item headers) list
      → map (λ f. shown (number_by rows f)) functions ≡ map (said_of headers rows) list
  functions_say rows [] [] e = refl
  functions_say rows [] (f ∷ functions) e = absurd (omega (arith, ap length e))
  functions_say rows (one ∷ list) [] e = absurd (omega (arith, ap length e))
  functions_say rows (one ∷ list) (f ∷ functions) e =
      ap (λ c. c ∷ map (λ g. shown (number_by rows g)) functions) (item_says rows one f (ap (λ l. get_or l 0 None) e))
      ∙ ap (λ l. said_of headers rows one ∷ l) (functions_say rows list functions (ap rest_of e))

  -- a function of a group's rows
  placed_told : (group : Group) (one : SelectItem) (i : GroupItem) (plan : Option FunctionPlan) → placed_item headers one ≡ plan → Some i ≡ option_map grouped.Function plan → told_in group i ≡ said_of headers group.rows one
  placed_told group one i None at is = cc
  placed_told group one i (Some plan) at is = ap (told_in group) (some_same i (grouped.Function plan) is) ∙ item_says group.rows one plan (sym at)

  -- each of their columns is there
  placed_within : (n : ℕ) → length headers ≡ n → (f : SetFunction) (name : List ℕ) (place : Option ℕ) (plan : FunctionPlan) → place_of headers name ≡ place → Some plan ≡ option_map (function.Of f) place → IsWithin n plan
  placed_within n count f name None plan at is = cc
  placed_within n count f name (Some p) plan at is =
      let inside : p < n = omega (arith, place_inside headers name p at, count) in
      subst (IsWithin n) (sym (some_same plan (function.Of f p) is)) inside

  item_within : (n : ℕ) → length headers ≡ n → (one : SelectItem) (plan : FunctionPlan) → Some plan ≡ placed_item headers one → IsWithin n plan
  item_within n count (item.Column name) plan is = cc
  item_within n count item.CountRows plan is = subst (IsWithin n) (sym (some_same plan function.CountRows is)) tt
  item_within n count (item.Function f name) plan is = placed_within n count f name (place_of headers name) plan refl is

  functions_within : (n : ℕ) → length headers ≡ n → (list : List SelectItem) (functions : List FunctionPlan) → map (λ f. Some f) functions ≡ map (placed_item headers) list → All (IsWithin n) functions
  functions_within n count list [] e = All-nil (IsWithin n)
  functions_within n count [] (f ∷ functions) e = absurd (omega (arith, ap length e))
  functions_within n count (one ∷ list) (f ∷ functions) e =
      All-cons (IsWithin n) f functions (item_within n count one f (ap (λ l. get_or l 0 None) e)) (functions_within n count list functions (ap rest_of e))

  placed_inside : (n : ℕ) → length headers ≡ n → (one : SelectItem) (i : GroupItem) (plan : Option FunctionPlan) → placed_item headers one ≡ plan → Some i ≡ option_map grouped.Function plan → IsItemWithin n i
  placed_inside n count one i None at is = cc
  placed_inside n count one i (Some plan) at is = subst (IsItemWithin n) (sym (some_same i (grouped.Function plan) is)) (item_within n count one plan (sym at))

  -- what an item shows of a group
  item_told : (group : Group) (one : SelectItem) (i : GroupItem) → Some i ≡ grouped_item headers one → told_in group i ≡ said_in headers group one
  item_told group (item.Column name) i is = ap (told_in group) (some_same i grouped.Value is)
  item_told group item.CountRows i is = placed_told group item.CountRows i (placed_item headers item.CountRows) refl is
  item_told group (item.Function f name) i is = placed_told group (item.Function f name) i (placed_item headers (item.Function f name)) refl is

  items_told : (group : Group) (list : List SelectItem) (items : List GroupItem) → map (λ i. Some i) items ≡ map (grouped_item headers) list → map (told_in group) items ≡ map (said_in headers group) list
  items_told group [] [] e = refl
  items_told group [] (i ∷ items) e = absurd (omega (arith, ap length e))
  items_told group (one ∷ list) [] e = absurd (omega (arith, ap length e))
  items_told group (one ∷ list) (i ∷ items) e =
      ap (λ c. c ∷ map (told_in group) items) (item_told group one i (ap (λ l. get_or l 0 None) e))
      ∙ ap (λ l. said_in headers group one ∷ l) (items_told group list items (ap rest_of e))

  -- the column of each is there
  item_inside : (n : ℕ) → length headers ≡ n → (one : SelectItem) (i : GroupItem) → Some i ≡ grouped_item headers one → IsItemWithin n i
  item_inside n count (item.Column name) i is = subst (IsItemWithin n) (sym (some_same i grouped.Value is)) tt
  item_inside n count item.CountRows i is = placed_inside n count item.CountRows i (placed_item headers item.CountRows) refl is
  item_inside n count (item.Function f name) i is = placed_inside n count (item.Function f name) i (placed_item headers (item.Function f name)) refl is

  items_inside : (n : ℕ) → length headers ≡ n → (list : List SelectItem) (items : List GroupItem) → map (λ i. Some i) items ≡ map (grouped_item headers) list → All (IsItemWithin n) items
  items_inside n count list [] e = All-nil (IsItemWithin n)
  items_inside n count [] (i ∷ items) e = absurd (omega (arith, ap length e))
  items_inside n count (one ∷ list) (i ∷ items) e = All-cons (IsItemWithin n) i items (item_inside n count one i (ap (λ l. get_or l 0 None) e)) (items_inside n count list items (ap rest_of e))

  -- what a plan shows of rows is what the list shows
  pub lines_are : (list : List SelectItem) (grouping : Option (List ℕ)) (plan : ShownPlan) (rows : List Row) → ShowsBy headers list grouping plan → lines_by plan rows ≡ lines_for headers list grouping rows
  lines_are list None (plans.Columns places) rows by =
      rw by.0 (λ j. map (λ row. line_by_places headers (columns_in list) places.items row by.1 j) rows)
  lines_are list None (plans.Functions functions) rows by = rw by.0 (ap (λ line. line ∷ []) (functions_say rows list functions.items by.1))
  lines_are list None (plans.Groups plan) rows by = absurd by
  lines_are list (Some name) (plans.Columns places) rows by = absurd by
  lines_are list (Some name) (plans.Functions functions) rows by = absurd by
  lines_are list (Some name) (plans.Groups plan) rows by =
      (λ j. map (λ group. items_told group list plan.items.items by.1 j) (groups_by (Some plan.by) rows))
      ∙ ap (λ place. map (λ group. map (said_in headers group) list) (groups_by place rows)) by.0

  pub width_is : (list : List SelectItem) (grouping : Option (List ℕ)) (plan : ShownPlan) → ShowsBy headers list grouping plan → plan_width plan ≡ length list
  width_is list None (plans.Columns places) by =
      sym (length-map places.items (λ place. Some place)) ∙ ap length by.1 ∙ length-map (columns_in list) (place_of headers) ∙ columns_only list by.0
  width_is list None (plans.Functions functions) by = sym (length-map functions.items (λ f. Some f)) ∙ ap length by.1 ∙ length-map list (placed_item headers)
  width_is list None (plans.Groups plan) by = absurd by
  width_is list (Some name) (plans.Columns places) by = absurd by
  width_is list (Some name) (plans.Functions functions) by = absurd by
  width_is list (Some name) (plans.Groups plan) by = sym (length-map plan.items.items (λ i. Some i)) ∙ ap length by.1 ∙ length-map list (grouped_item headers)

  pub shown_within : (n : ℕ) → length headers ≡ n → (list : List SelectItem) (grouping : Option (List ℕ)) (plan : ShownPlan) → ShowsBy headers list grouping plan → IsShownWithin n plan
  shown_within n count list None (plans.Columns places) by = places_inside headers count (columns_in list) places.items by.1
  shown_within n count list None (plans.Functions functions) by = functions_within n count list functions.items by.1
  shown_within n count list None (plans.Groups plan) by = absurd by
  shown_within n count list (Some name) (plans.Columns places) by = absurd by
  shown_within n count list (Some name) (plans.Functions functions) by = absurd by
  shown_within n count list (Some name) (plans.Groups plan) by =
      (let inside = place_inside headers name plan.by (sym by.0) in omega (arith, inside, count), items_inside n count list plan.items.items by.1)

-- the values of a column in the rows that are found
where_true : (place : ℕ) (bits : List Bool) (rows : List Row) → length bits ≡ length rows → items_where_true bits (column_of rows place) ≡ map (λ row. value_at row place) (rows_where (λ i. get_or bits i false) rows)
where_true place [] [] same = refl
where_true place [] (row ∷ rows) same = absurd (omega (arith, same))
where_true place (b ∷ bits) [] same = absurd (omega (arith, same))
where_true place (true ∷ bits) (row ∷ rows) same =
    ap (λ v. v ∷ items_where_true bits (column_of rows place)) (same_value row place)
    ∙ ap (λ l. value_at row place ∷ l) (where_true place bits rows (omega (arith, same)))
where_true place (false ∷ bits) (row ∷ rows) same = where_true place bits rows (omega (arith, same))

module _ (slots : List Slot) (found : MaskRows) (long : len found ≡ length slots) where
  same_count : length found.rows ≡ length (rows_of_slots slots)
  same_count = long ∙ sym (length-map slots (λ (slot : Slot). slot.row))

  pub chosen_found : (place : ℕ) → known (items_where_true found.rows (slot_column slots place)) ≡ known (map (λ row. value_at row place) (rows_where (row_at found) (rows_of_slots slots)))
  chosen_found place = ap known (where_true place found.rows (rows_of_slots slots) same_count)

  pub found_rows_count : count_by (λ row. row) found.rows ≡ length (rows_where (row_at found) (rows_of_slots slots))
  found_rows_count = counted found.rows (rows_of_slots slots) same_count

-- one number more
pub numbers_more : {A B : Type 0} (f : A → B) (xs : List A) (i : ℕ) (d : A) (ys more : List B) (y : B) → i < length xs → ys ≡ map f (take i xs) → more ≡ ys ++ y ∷ [] → y ≡ f (get_or xs i d) → more ≡ map f (take (i + 1) xs)
numbers_more f xs i d ys more y low so_far grown is =
    grown ∙ ap (λ l. l ++ y ∷ []) so_far ∙ ap (λ n. map f (take i xs) ++ n ∷ []) is
    ∙ sym (ap (map f) (take_more xs i d low) ∙ map-append f (take i xs) (get_or xs i d ∷ []))

-- the cells of numbers
pub shown_numbers : {A : Type 0} (f : A → Option ℤ) (xs : List A) → map shown (map f xs) ≡ map (λ x. shown (f x)) xs
shown_numbers f [] = refl
shown_numbers f (x ∷ xs) = ap (λ l. shown (f x) ∷ l) (shown_numbers f xs)

-- a summary in which each function of a column is asked for tells each of them
pub tells_all : (functions : List FunctionPlan) (place : ℕ) (asked : Asked) (summary : Summary) (values : List ℤ) → AskFor functions place asked → IsSummary asked values summary
    → (f : SetFunction) (i : ℕ) (d : FunctionPlan) → i < length functions → get_or functions i d ≡ function.Of f place → told_by f summary ≡ number_of f values
tells_all functions place asked summary values asks is Count i d low at = ap (λ n. Some (pos n)) is.count
tells_all functions place asked summary values asks is Sum i d low at = is.sum ∙ ap (λ (b : Bool). if b then sum values else None) (asks.sum i d low at)
tells_all functions place asked summary values asks is Min i d low at = is.least ∙ ap (λ (b : Bool). if b then least values else None) (asks.least i d low at)
tells_all functions place asked summary values asks is Max i d low at = is.greatest ∙ ap (λ (b : Bool). if b then greatest values else None) (asks.greatest i d low at)
tells_all functions place asked summary values asks is Median i d low at = is.median ∙ ap (λ (b : Bool). if b then median values else None) (asks.median i d low at)

-- an entry that is there, whatever stands for one that isn't
pub same_entry : {A : Type 0} (xs : List A) (i : ℕ) (d e : A) → i < length xs → get_or xs i d ≡ get_or xs i e
same_entry [] i d e low = absurd (omega (arith, low))
same_entry (x ∷ xs) zero d e low = refl
same_entry (x ∷ xs) (suc i) d e low = same_entry xs i d e (omega (arith, low))
