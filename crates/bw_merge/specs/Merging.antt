-- Merges: results for the rows of two concatenated lists, from the results for each.
use Rattle.std.specs.Prelude.{Bool, List, None, Option, Some, [], false, if◌then◌else◌, map, true, ℕ, ℤ, ◌+ℤ◌, ◌++◌, ◌∷◌}
use Rattle.std.specs.Int.{int_max, int_min}
use Rattle.bw_sql.specs.Tree.{ConditionTree, SelectTree}
use Rattle.bw_sql.specs.declared.tree.SelectItem.{SelectItem}
use Rattle.bw_sql.specs.declared.tree.SelectItem.TheVariants as item
use Rattle.bw_sql.specs.declared.tree.SetFunction.TheVariants as function
use Rattle.bw_model.specs.Condition.{found_rows}
use Rattle.bw_model.specs.Groups.{Group, group_values, groups_by, is_same}
use Rattle.bw_model.specs.Select.{answer, said_in}
use Rattle.bw_model.specs.Store.{Header, Row, Value}
use Rattle.bw_model.specs.declared.answer.Cell.{Cell}
use Rattle.bw_model.specs.declared.answer.Cell.TheVariants.{Null, Number}

-- the rows that a condition finds in rows of these columns
abbrev pub found_in : List Header → Option ConditionTree → List Row → List Row
found_in headers condition rows = found_rows (record { headers = headers; rows = rows }) condition

-- the lines of the answer to a SELECT over rows of these columns
abbrev pub lines_of : List Header → SelectTree → List Row → List (List Cell)
lines_of headers query rows = (answer (record { headers = headers; rows = rows }) query).lines

-- whether an item is a median, which isn't merged but found by counts
abbrev pub is_median : SelectItem → Bool
is_median (item.Function function.Median name) = true
is_median _ = false

-- the merge of two numbers of an item: counts and sums are added, MIN takes the smaller and MAX the greater; the value of a
-- grouping column is the same in both
abbrev pub merging : SelectItem → ℤ → ℤ → ℤ
merging item.CountRows a b = a +ℤ b
merging (item.Function function.Count name) a b = a +ℤ b
merging (item.Function function.Sum name) a b = a +ℤ b
merging (item.Function function.Min name) a b = int_min a b
merging (item.Function function.Max name) a b = int_max a b
merging _ a b = a

-- the merge of two cells: that of both numbers, or the one that isn't NULL
abbrev pub merged : SelectItem → Cell → Cell → Cell
merged item (Number a) (Number b) = Number (merging item a b)
merged item Null cell = cell
merged item cell _ = cell

-- two lines, cell by cell
abbrev pub merged_line : List SelectItem → List Cell → List Cell → List Cell
merged_line (item ∷ items) (cell ∷ cells) (other ∷ others) = merged item cell other ∷ merged_line items cells others
merged_line _ _ _ = []

-- the group of a value
abbrev pub group_of : Value → List Row → Group
group_of value rows = record { value = value; rows = rows }

-- the rows of the group of a value, none if there is no such group
abbrev pub rows_at : Value → List Group → List Row
rows_at value [] = []
rows_at value (group ∷ groups) = if is_same group.value value then group.rows else rows_at value groups

-- the group of a value in two lists: its rows in the first, followed by those in the second
abbrev pub group_of_both : List Group → List Group → Value → Group
group_of_both groups others value = group_of value (rows_at value groups ++ rows_at value others)

-- a group for each value of either, ascending, with NULL last
abbrev pub merged_groups : List Group → List Group → List Group
merged_groups groups others = map (group_of_both groups others) (group_values (map (λ group. group.value) (groups ++ others)))

-- the line of each group, by the group's value
abbrev pub GroupLine : Type 0
GroupLine = Value × List Cell

abbrev pub group_line : List Header → List SelectItem → Group → GroupLine
group_line headers list group = (group.value, map (said_in headers group) list)

abbrev pub group_lines : List Header → List SelectItem → Option ℕ → List Row → List GroupLine
group_lines headers list place rows = map (group_line headers list) (groups_by place rows)

-- the line of a value, if there is one
abbrev pub line_at : Value → List GroupLine → Option (List Cell)
line_at value [] = None
line_at value (line ∷ lines) = if is_same line.0 value then Some line.1 else line_at value lines

-- the merge of two lines, or the one that exists
abbrev pub line_of_both : List SelectItem → Option (List Cell) → Option (List Cell) → List Cell
line_of_both list (Some line) (Some other) = merged_line list line other
line_of_both list (Some line) None = line
line_of_both list None (Some other) = other
line_of_both list None None = []

-- a line for each value of either, ascending, with NULL last
abbrev pub merged_lines : List SelectItem → List GroupLine → List GroupLine → List GroupLine
merged_lines list lines others =
    map (λ value. (value, line_of_both list (line_at value lines) (line_at value others)))
    (group_values (map (λ line. line.0) (lines ++ others)))
