-- What is shown for groups of rows, by the rank of each row's group.
use Rattle.std.specs.Prelude.{Bool, Contains, List, None, Option, Some, [], length, map, pos, slice_index_or, suc, true, zero, ℕ, ℤ, ◌++◌, ◌<◌, ◌≡◌}
use Rattle.bw_aggregate.specs.declared.summary.Asked.{Asked}
use Rattle.bw_aggregate.specs.declared.summary.Summary.{Summary}
use Rattle.bw_cells.specs.SetFunctions.{known}
use Rattle.bw_groups.specs.Grouping.{Grouping, members, rows_in}
use Rattle.bw_model.specs.Select.{shown}
use Rattle.bw_model.specs.Store.{Row, value_at}
use Rattle.bw_model.specs.declared.answer.Cell.{Cell}
use Rattle.bw_plan.specs.declared.grouping.GroupItem.{GroupItem}
use Rattle.bw_plan.specs.declared.grouping.GroupItem.TheVariants as grouped
use Rattle.bw_plan.specs.declared.select.FunctionPlan.{FunctionPlan}
use Rattle.bw_plan.specs.declared.select.FunctionPlan.TheVariants as function
use Rattle.bw_sql.specs.declared.tree.SetFunction.{SetFunction}
use Rattle.bw_sql.specs.declared.tree.SetFunction.TheVariants.{Max, Median, Min, Sum}
use Rattle.bw_engine.specs.Folds.{number_of, told_by}

-- the values of a column in rows
abbrev pub column_in : List Row → ℕ → List (Option ℤ)
column_in rows place = map (λ row. value_at row place) rows

-- if a set function is one of the items, it is asked for
abbrev pub IsAskedIn : List GroupItem → FunctionPlan → Bool → Type 0
IsAskedIn items f asked = Contains items (grouped.Function f) → asked ≡ true

pub record AskForItems (items : List GroupItem) (place : ℕ) (asked : Asked) : Type 0 where
  pub sum : IsAskedIn items (function.Of Sum place) asked.sum
  pub least : IsAskedIn items (function.Of Min place) asked.least
  pub greatest : IsAskedIn items (function.Of Max place) asked.greatest
  pub median : IsAskedIn items (function.Of Median place) asked.median

-- summaries of a column, one per group, have the right value for each item that is a set function of this column
pub record TellGroups (rows : List Row) (groups : Grouping) (items : List GroupItem) (place : ℕ) (summaries : List Summary) : Type 0 where
  pub count : length summaries ≡ length groups.values
  pub each : (g : ℕ) (f : SetFunction) (d : Summary) → g < length groups.values → Contains items (grouped.Function (function.Of f place)) → told_by f (slice_index_or summaries g d) ≡ number_of f (known (members groups.ranks (column_in rows place) g))

-- what an item shows for group g
abbrev pub told_at : List Row → Grouping → ℕ → GroupItem → Cell
told_at rows groups g grouped.Value = shown (slice_index_or groups.values g None)
told_at rows groups g (grouped.Function function.CountRows) = shown (Some (pos (rows_in groups.ranks g)))
told_at rows groups g (grouped.Function (function.Of f place)) = shown (number_of f (known (members groups.ranks (column_in rows place) g)))

-- the cells of the first n groups, group by group
abbrev pub cells_to : List Row → Grouping → List GroupItem → ℕ → List Cell
cells_to rows groups items zero = []
cells_to rows groups items (suc n) = cells_to rows groups items n ++ map (told_at rows groups n) items
