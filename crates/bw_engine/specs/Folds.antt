-- The values of set functions over rows, with columns given by index.
use Rattle.std.specs.Prelude.{All, Bool, List, Option, Some, [], length, map, pos, slice_index_or, true, ⊤, ℕ, ℤ, ◌<◌, ◌≡◌, ◌∷◌}
use Rattle.bw_aggregate.specs.declared.summary.Asked.{Asked}
use Rattle.bw_aggregate.specs.declared.summary.Summary.{Summary}
use Rattle.bw_engine.specs.declared.set_functions.ColumnSummary.{ColumnSummary}
use Rattle.bw_sql.specs.declared.tree.SetFunction.{SetFunction}
use Rattle.bw_sql.specs.declared.tree.SetFunction.TheVariants.{Count, Sum, Min, Max, Median}
use Rattle.bw_cells.specs.SetFunctions.{greatest, known, least, median, sum}
use Rattle.bw_model.specs.Groups.{Group, groups_by}
use Rattle.bw_model.specs.Store.{Row, value_at}
use Rattle.bw_model.specs.Select.{shown}
use Rattle.bw_model.specs.declared.answer.Cell.{Cell}
use Rattle.bw_plan.specs.declared.grouping.GroupItem.{GroupItem}
use Rattle.bw_plan.specs.declared.grouping.GroupItem.TheVariants as grouped
use Rattle.bw_plan.specs.declared.select.FunctionPlan.{FunctionPlan}
use Rattle.bw_plan.specs.declared.select.FunctionPlan.TheVariants as function
use Rattle.bw_plan.specs.declared.select.ShownPlan.{ShownPlan}
use Rattle.bw_plan.specs.declared.select.ShownPlan.TheVariants as plans

-- a set function of non-null values
abbrev pub number_of : SetFunction → List ℤ → Option ℤ
number_of Count values = Some (pos (length values))
number_of Sum values = sum values
number_of Min values = least values
number_of Max values = greatest values
number_of Median values = median values

abbrev pub number_by : List Row → FunctionPlan → Option ℤ
number_by rows function.CountRows = Some (pos (length rows))
number_by rows (function.Of f place) = number_of f (known (map (λ row. value_at row place) rows))

-- the value of a set function in a summary
abbrev pub told_by : SetFunction → Summary → Option ℤ
told_by Count summary = Some (pos summary.count)
told_by Sum summary = summary.sum
told_by Min summary = summary.least
told_by Max summary = summary.greatest
told_by Median summary = summary.median

-- the summary of a column has the right value for each of the functions that is of this column
abbrev pub Tells : List Row → List FunctionPlan → ColumnSummary → Type 0
Tells rows functions column = (f : SetFunction) (i : ℕ) (d : FunctionPlan) → i < length functions → slice_index_or functions i d ≡ function.Of f column.place
    → told_by f column.summary ≡ number_of f (known (map (λ row. value_at row column.place) rows))

-- if a function is one of them, it is asked for
abbrev pub IsAskedIf : List FunctionPlan → FunctionPlan → Bool → Type 0
IsAskedIf functions f asked = (i : ℕ) (d : FunctionPlan) → i < length functions → slice_index_or functions i d ≡ f → asked ≡ true

pub record AskFor (functions : List FunctionPlan) (place : ℕ) (asked : Asked) : Type 0 where
  pub sum : IsAskedIf functions (function.Of Sum place) asked.sum
  pub least : IsAskedIf functions (function.Of Min place) asked.least
  pub greatest : IsAskedIf functions (function.Of Max place) asked.greatest
  pub median : IsAskedIf functions (function.Of Median place) asked.median

-- the function's column exists
abbrev pub IsWithin : ℕ → FunctionPlan → Type 0
IsWithin count function.CountRows = ⊤
IsWithin count (function.Of f place) = place < count

-- what an item shows for a group: its value, or a function of its rows
abbrev pub told_in : Group → GroupItem → Cell
told_in group grouped.Value = shown group.value
told_in group (grouped.Function f) = shown (number_by group.rows f)

abbrev pub IsItemWithin : ℕ → GroupItem → Type 0
IsItemWithin count grouped.Value = ⊤
IsItemWithin count (grouped.Function f) = IsWithin count f

-- the number of cells in a line
abbrev pub plan_width : ShownPlan → ℕ
plan_width (plans.Columns places) = length places.items
plan_width (plans.Functions functions) = length functions.items
plan_width (plans.Groups plan) = length plan.items.items

abbrev pub IsShownWithin : ℕ → ShownPlan → Type 0
IsShownWithin count (plans.Columns places) = All (λ place. place < count) places.items
IsShownWithin count (plans.Functions functions) = All (IsWithin count) functions.items
IsShownWithin count (plans.Groups plan) = (plan.by < count) × All (IsItemWithin count) plan.items.items

-- the lines that are shown for rows
abbrev pub lines_by : ShownPlan → List Row → List (List Cell)
lines_by (plans.Columns places) rows = map (λ row. map (λ place. shown (value_at row place)) places.items) rows
lines_by (plans.Functions functions) rows = map (λ f. shown (number_by rows f)) functions.items ∷ []
lines_by (plans.Groups plan) rows = map (λ group. map (told_in group) plan.items.items) (groups_by (Some plan.by) rows)
