-- Cells as slots of a single column, and those that are found.
use Rattle.std.proofs.Common.{All, Bool, IfSome, List, None, Option, Some, [], ap, drop, if◌then◌else◌, length, map, refl, subst, suc, sym, take, true, false, zero, ℕ, ℤ, ◌<◌, ◌∙◌, ◌∷◌, ◌≡◌}
use Rattle.std.proofs.lemmas.List.{get_or-map, length-map}
use Rattle.std.proofs.lemmas.List.Elements.{All-cons, All-head, All-nil, All-tail}
use Rattle.bw_cells.specs.SetFunctions.{known}
use Rattle.bw_column.specs.Values as columns
use Rattle.bw_code.specs.Fittings.{AreEnds}
use Rattle.bw_code.specs.declared.ends.Ends.{Ends}
use Rattle.bw_column.specs.Extremes.{AreBounds}
use Rattle.bw_groups.specs.Runs.{IsWithin, values_in}
use Rattle.bw_table.specs.Slots.{Slot, live_slot, slot_at, slot_column}
use Rattle.bw_model.specs.Store.{Row, Value, value_at}
use Rattle.bw_engine.specs.Found.{rows_where}
use Rattle.bw_engine.specs.GroupLines.{column_in}
use Rattle.bw_engine.specs.Runs.{found_runs, slots_of}
use Rattle.bw_engine.specs.Stores.{rows_of_slots}
use Rattle.bw_engine.proofs.FoundRuns.{runs_column}
use Rattle.bw_engine.proofs.SetRows.{same_value}

pub slots_long : (cells : List Value) → length (slots_of cells) ≡ length cells
slots_long cells = length-map cells (λ (cell : Value). live_slot (cell ∷ []))

pub cells_are : (cells : List Value) (i : ℕ) → i < length cells → columns.value_at cells i ≡ value_at (slot_at (slots_of cells) i).row 0
cells_are cells i low = sym (ap (λ (slot : Slot). value_at slot.row 0) (get_or-map (λ (cell : Value). live_slot (cell ∷ [])) cells i None (live_slot []) low))

-- what is mapped before or after some are taken
pub where_map : {A B : Type 0} (f : A → B) (passes : ℕ → Bool) (rows : List A) → rows_where passes (map f rows) ≡ map f (rows_where passes rows)
where_map f passes [] = refl
where_map {A} {B} f passes (row ∷ rows) = by (passes 0) (where_map f (λ i. passes (suc i)) rows)
  where
    by : (b : Bool) → rows_where (λ i. passes (suc i)) (map f rows) ≡ map f (rows_where (λ i. passes (suc i)) rows)
        → (if b then f row ∷ rows_where (λ i. passes (suc i)) (map f rows) else rows_where (λ i. passes (suc i)) (map f rows)) ≡ map f (if b then row ∷ rows_where (λ i. passes (suc i)) rows else rows_where (λ i. passes (suc i)) rows)
    by true rest = ap (λ l. f row ∷ l) rest
    by false rest = rest

map_same : {A B : Type 0} (f g : A → B) → ((x : A) → f x ≡ g x) → (xs : List A) → map f xs ≡ map g xs
map_same f g same [] = refl
map_same f g same (x ∷ xs) = (λ j. same x j ∷ map_same f g same xs j)

rows_cells : (cells : List Value) → map (λ (row : Row). value_at row 0) (rows_of_slots (slots_of cells)) ≡ cells
rows_cells [] = refl
rows_cells (cell ∷ cells) = ap (λ l. cell ∷ l) (rows_cells cells)

-- the runs of found cells hold the cells that are found
pub cells_found : (cells : List Value) (passes : ℕ → Bool) → values_in (found_runs 0 (slots_of cells) passes) ≡ rows_where passes cells
cells_found cells passes =
    runs_column 0 (slots_of cells) passes
    ∙ sym (where_map (λ (row : Row). value_at row 0) passes (rows_of_slots (slots_of cells)))
    ∙ ap (rows_where passes) (rows_cells cells)

-- those of a column of a table are its values in the found rows
pub column_found : (place : ℕ) (slots : List Slot) (values : List Value) (passes : ℕ → Bool) → values ≡ slot_column slots place → values_in (found_runs 0 (slots_of values) passes) ≡ column_in (rows_where passes (rows_of_slots slots)) place
column_found place slots values passes is =
    cells_found values passes
    ∙ ap (rows_where passes) (is ∙ map_same (λ (row : Row). columns.value_at row place) (λ (row : Row). value_at row place) (λ row. same_value row place) (rows_of_slots slots))
    ∙ where_map (λ (row : Row). value_at row place) passes (rows_of_slots slots)

-- what holds of all cells holds of those that are found
module _ (P : ℤ → Type 0) where
  later_all : (cell : Value) (cells : List Value) → All P (known (cell ∷ cells)) → All P (known cells)
  later_all None cells all = all
  later_all (Some x) cells all = All-tail P x (known cells) all

  first_all : (cell : Value) (cells others : List Value) → All P (known (cell ∷ cells)) → All P (known others) → All P (known (cell ∷ others))
  first_all None cells others all rest = rest
  first_all (Some x) cells others all rest = All-cons P x (known others) (All-head P x (known cells) all) rest

  pub drop_all : (n : ℕ) (cells : List Value) → All P (known cells) → All P (known (drop n cells))
  drop_all zero cells all = all
  drop_all (suc n) [] all = all
  drop_all (suc n) (cell ∷ cells) all = drop_all n cells (later_all cell cells all)

  pub take_all : (n : ℕ) (cells : List Value) → All P (known cells) → All P (known (take n cells))
  take_all zero [] all = all
  take_all zero (cell ∷ cells) all = All-nil P
  take_all (suc n) [] all = all
  take_all (suc n) (cell ∷ cells) all = first_all cell cells (take n cells) all (take_all n cells (later_all cell cells all))

  pub where_all : (passes : ℕ → Bool) (cells : List Value) → All P (known cells) → All P (known (rows_where passes cells))
  where_all passes [] all = all
  where_all passes (cell ∷ cells) all = by (passes 0) (where_all (λ i. passes (suc i)) cells (later_all cell cells all))
    where
      by : (b : Bool) → All P (known (rows_where (λ i. passes (suc i)) cells)) → All P (known (if b then cell ∷ rows_where (λ i. passes (suc i)) cells else rows_where (λ i. passes (suc i)) cells))
      by true rest = first_all cell cells (rows_where (λ i. passes (suc i)) cells) all rest
      by false rest = rest

-- bounds of all cells bound those that are found
pub found_bounded : (cells : List Value) (passes : ℕ → Bool) (ends : Option Ends) → IfSome ends (λ bounds. All (IsWithin bounds) (known cells)) → IfSome ends (λ bounds. All (IsWithin bounds) (known (values_in (found_runs 0 (slots_of cells) passes))))
found_bounded cells passes None are = tt
found_bounded cells passes (Some ends) are = subst (λ l. All (IsWithin ends) (known l)) (sym (cells_found cells passes)) (where_all (IsWithin ends) passes cells are)

pub bounded_by : (values : List ℤ) (ends : Option Ends) → AreBounds values ends → IfSome ends (λ bounds. All (IsWithin bounds) values)
bounded_by values None are = tt
bounded_by values (Some ends) are = are

pub ended_by : (values : List ℤ) (ends : Option Ends) → AreEnds values ends → IfSome ends (λ bounds. All (IsWithin bounds) values)
ended_by values None are = tt
ended_by values (Some ends) are = λ k d h. (are.0.bound k d h, are.1.bound k d h)
