-- What a SELECT returns (SQL-92, query specification, group by clause and set function specification).
use Rattle.std.specs.Prelude.{ℕ, ℤ, Bool, false, true, not, if◌then◌else◌, List, [], ◌∷◌, ◌&&◌, Option, Some, None, filter_map, length, map, pos}
use Rattle.std.specs.List.{list_any}
use Rattle.bw_sql.specs.Tree.{ItemsTree, SelectTree, all_columns, listed}
use Rattle.bw_sql.specs.declared.tree.SelectItem.{SelectItem}
use Rattle.bw_sql.specs.declared.tree.SelectItem.TheVariants as item
use Rattle.bw_sql.specs.declared.tree.SetFunction.{SetFunction}
use Rattle.bw_sql.specs.declared.tree.SetFunction.TheVariants as function
use Rattle.bw_model.specs.Answers.{Shown}
use Rattle.bw_model.specs.Condition.{found_rows}
use Rattle.bw_model.specs.Groups.{Group, groups_by}
use Rattle.bw_cells.specs.SetFunctions.{greatest, known, least, median, sum}
use Rattle.bw_model.specs.Store.{Header, Row, Table, Value, names, place_of, value_from}
use Rattle.bw_model.specs.declared.answer.Cell.{Cell}
use Rattle.bw_model.specs.declared.answer.Cell.TheVariants.{Null, Number}
use Rattle.bw_model.specs.declared.answer.Heading.{Heading}
use Rattle.bw_model.specs.declared.answer.Heading.TheVariants as heading

-- the items that are shown: * stands for all columns in order
abbrev pub shown_items : List Header → ItemsTree → List SelectItem
shown_items headers all_columns = map (λ name. item.Column name) (names headers)
shown_items headers (listed list) = list

-- the column that an item names
abbrev pub item_column : SelectItem → Option (List ℕ)
item_column (item.Column name) = Some name
item_column item.CountRows = None
item_column (item.Function f name) = Some name

-- the columns that items name
abbrev pub columns_in : List SelectItem → List (List ℕ)
columns_in list = filter_map item_column list

abbrev pub is_column : SelectItem → Bool
is_column (item.Column name) = true
is_column _ = false

-- whether set functions are asked for, and whether columns are, too
abbrev pub has_functions : List SelectItem → Bool
has_functions list = list_any (λ item. not (is_column item)) list

abbrev pub is_mixed : List SelectItem → Bool
is_mixed list = has_functions list && list_any is_column list

-- the heading of an item
abbrev pub function_heading : SetFunction → List ℕ → Heading
function_heading function.Count name = heading.Count name
function_heading function.Sum name = heading.Sum name
function_heading function.Min name = heading.Min name
function_heading function.Max name = heading.Max name
function_heading function.Median name = heading.Median name

abbrev pub heading_of : SelectItem → Heading
heading_of (item.Column name) = heading.Column name
heading_of item.CountRows = heading.CountRows
heading_of (item.Function f name) = function_heading f name

abbrev pub shown : Value → Cell
shown None = Null
shown (Some number) = Number number

-- the line that shows these columns of a row
abbrev pub line_of : List Header → List (List ℕ) → Row → List Cell
line_of headers list row = map (λ name. shown (value_from row (place_of headers name))) list

-- a set function of the non-null values
abbrev pub folded : SetFunction → List ℤ → Cell
folded function.Count values = Number (pos (length values))
folded function.Sum values = shown (sum values)
folded function.Min values = shown (least values)
folded function.Max values = shown (greatest values)
folded function.Median values = shown (median values)

-- the value of an item for rows: their number, or a function of the non-null values of a column
abbrev pub said_of : List Header → List Row → SelectItem → Cell
said_of headers rows item.CountRows = Number (pos (length rows))
said_of headers rows (item.Function f name) = folded f (known (map (λ row. value_from row (place_of headers name)) rows))
said_of headers rows (item.Column name) = Null

-- the value of an item for a group: the group's value, or that of a function of its rows
abbrev pub said_in : List Header → Group → SelectItem → Cell
said_in headers group (item.Column name) = shown group.value
said_in headers group one = said_of headers group.rows one

-- with groups a line for each; without them one line of set functions of these rows, or a line for each row, in the order of the rows
abbrev pub lines_for : List Header → List SelectItem → Option (List ℕ) → List Row → List (List Cell)
lines_for headers list (Some name) rows = map (λ group. map (said_in headers group) list) (groups_by (place_of headers name) rows)
lines_for headers list None rows = if has_functions list then map (said_of headers rows) list ∷ [] else map (line_of headers (columns_in list)) rows

abbrev pub answer : Table → SelectTree → Shown
answer table query =
    let list = shown_items table.headers query.items in
    record { headings = map heading_of list; lines = lines_for table.headers list query.grouping (found_rows table query.condition) }
