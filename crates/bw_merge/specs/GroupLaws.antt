-- Laws of groups: the groups of two concatenated lists are the groups of each, merged by their values.
use Rattle.std.specs.Prelude.{List, Option, Some, false, map, ℕ, ◌++◌, ◌≡◌, ◌≢◌}
use Rattle.std.specs.List.{Contains, list_any}
use Rattle.bw_sql.specs.Tree.{SelectTree}
use Rattle.bw_sql.specs.declared.tree.SelectItem.{SelectItem}
use Rattle.bw_model.specs.Groups.{Group, group_values, groups_by, rows_having}
use Rattle.bw_model.specs.Select.{said_in, shown_items}
use Rattle.bw_model.specs.Store.{Header, Row, Value, place_of}
use Rattle.bw_merge.specs.ItemLaws.{Merges}
use Rattle.bw_merge.specs.Merging.{GroupLine, found_in, group_lines, group_of, group_of_both, is_median, lines_of, merged_groups}
use Rattle.bw_merge.specs.Merging.{merged_lines, rows_at}
use Rattle.bw_merge.specs.RowLaws.{Follows}

-- the values of the groups of two lists are those of the groups of either, each once, ascending, with NULL last
abbrev pub ValuesMerge : Type 0
ValuesMerge = (values more : List Value) → group_values (values ++ more) ≡ group_values (group_values values ++ group_values more)

-- the rows that have a value
abbrev pub RowsOfValueFollow : Type 0
RowsOfValueFollow = (place : Option ℕ) (value : Value) → Follows (rows_having place value)

-- the groups of two lists are the merge of the groups of each
abbrev pub GroupsMerge : Type 0
GroupsMerge = (place : Option ℕ) (rows more : List Row)
    → groups_by place (rows ++ more) ≡ merged_groups (groups_by place rows) (groups_by place more)

-- the group of a value has the rows that have it
abbrev pub GroupsHaveRows : Type 0
GroupsHaveRows = (place : Option ℕ) (value : Value) (rows : List Row) → rows_at value (groups_by place rows) ≡ rows_having place value rows

-- a value that no group has
abbrev pub HasNoGroup : List Group → Value → Type 0
HasNoGroup groups value = (group : Group) → Contains groups group → group.value ≢ value

-- if only one list has a group of a value, it is the group of both
abbrev pub FirstGroupStays : Type 0
FirstGroupStays = (groups others : List Group) (value : Value)
    → HasNoGroup others value → group_of_both groups others value ≡ group_of value (rows_at value groups)

abbrev pub SecondGroupStays : Type 0
SecondGroupStays = (groups others : List Group) (value : Value)
    → HasNoGroup groups value → group_of_both groups others value ≡ group_of value (rows_at value others)

-- the results of any item except a median for a group are merged
abbrev pub GroupItemsMerge : Type 0
GroupItemsMerge = (headers : List Header) (value : Value) (item : SelectItem)
    → is_median item ≡ false → Merges item (λ rows. said_in headers (group_of value rows) item)

-- the lines of groups are the merge of the lines of each by their values
abbrev pub GroupLinesMerge : Type 0
GroupLinesMerge = (headers : List Header) (list : List SelectItem) (place : Option ℕ) (rows more : List Row)
    → list_any is_median list ≡ false
    → group_lines headers list place (rows ++ more)
    ≡ merged_lines list (group_lines headers list place rows) (group_lines headers list place more)

-- the lines, by value, of the groups in the answer to a SELECT with GROUP BY
abbrev pub answered : List Header → SelectTree → List ℕ → List Row → List GroupLine
answered headers query name rows =
    group_lines headers (shown_items headers query.items) (place_of headers name) (found_in headers query.condition rows)

-- the answer has these lines
abbrev pub GroupedAnswersAreLines : Type 0
GroupedAnswersAreLines = (headers : List Header) (query : SelectTree) (name : List ℕ) (rows : List Row)
    → query.grouping ≡ Some name → lines_of headers query rows ≡ map (λ line. line.1) (answered headers query name rows)

-- and these lines are merged
abbrev pub GroupedAnswersMerge : Type 0
GroupedAnswersMerge = (headers : List Header) (query : SelectTree) (name : List ℕ) (rows more : List Row)
    → list_any is_median (shown_items headers query.items) ≡ false
    → answered headers query name (rows ++ more)
    ≡ merged_lines (shown_items headers query.items) (answered headers query name rows) (answered headers query name more)
