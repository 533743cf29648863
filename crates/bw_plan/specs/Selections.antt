-- What a SELECT shows, with indexes for names.
use Rattle.std.specs.Prelude.{Bool, List, None, Option, Some, false, is_some, map, not, option_map, true, ℕ, ◌≡◌}
use Rattle.bw_sql.specs.declared.tree.SelectItem.{SelectItem}
use Rattle.bw_sql.specs.declared.tree.SelectItem.TheVariants as item
use Rattle.bw_model.specs.Select.{columns_in, has_functions}
use Rattle.bw_model.specs.Store.{Header, place_of}
use Rattle.bw_plan.specs.declared.grouping.GroupItem.{GroupItem}
use Rattle.bw_plan.specs.declared.grouping.GroupItem.TheVariants as grouped
use Rattle.bw_plan.specs.declared.select.FunctionPlan.{FunctionPlan}
use Rattle.bw_plan.specs.declared.select.FunctionPlan.TheVariants as function
use Rattle.bw_plan.specs.declared.select.ShownPlan.{ShownPlan}
use Rattle.bw_plan.specs.declared.select.ShownPlan.TheVariants as shown

-- a set function with the index of its column, if that column exists
abbrev pub placed_item : List Header → SelectItem → Option FunctionPlan
placed_item headers item.CountRows = Some function.CountRows
placed_item headers (item.Function f name) = option_map (function.Of f) (place_of headers name)
placed_item headers (item.Column name) = None

abbrev pub is_unplaced : List Header → SelectItem → Bool
is_unplaced headers item = not (is_some (placed_item headers item))

-- what an item shows for a group: its value, or a set function with the index of its column, if that column exists
abbrev pub grouped_item : List Header → SelectItem → Option GroupItem
grouped_item headers (item.Column name) = Some grouped.Value
grouped_item headers item = option_map grouped.Function (placed_item headers item)

abbrev pub is_ungrouped : List Header → SelectItem → Bool
is_ungrouped headers item = not (is_some (grouped_item headers item))

-- with GROUP BY, what the items show for each group, and the index of the grouping column; else the list's set functions, or if
-- it has none the indexes of its columns
abbrev pub ShowsBy : List Header → List SelectItem → Option (List ℕ) → ShownPlan → Type 0
ShowsBy headers list None (shown.Columns places) = (has_functions list ≡ false) × (map (λ place. Some place) places.items ≡ map (place_of headers) (columns_in list))
ShowsBy headers list None (shown.Functions functions) = (has_functions list ≡ true) × (map (λ f. Some f) functions.items ≡ map (placed_item headers) list)
ShowsBy headers list (Some name) (shown.Groups plan) = (Some plan.by ≡ place_of headers name) × (map (λ i. Some i) plan.items.items ≡ map (grouped_item headers) list)
ShowsBy headers list grouping plan = ⊥
