-- Laws of counts that are queried: an additional condition keeps those of the found rows that meet it too, so that counting the
-- rows within a bound on a column counts the values of the column.
use Rattle.std.specs.Prelude.{List, None, Some, length, map, ℕ, ℤ, ◌≡◌}
use Rattle.bw_cells.specs.SetFunctions.{known}
use Rattle.bw_lex.specs.declared.token.CompareOp.TheVariants.{Eq, Le, Lt}
use Rattle.bw_sql.specs.Tree.{ConditionTree, ConditionTrees, between, comparison, each_of, more, null}
use Rattle.bw_sql.specs.declared.tree.Operand.{Operand}
use Rattle.bw_sql.specs.declared.tree.Operand.TheVariants.{Column, Constant}
use Rattle.bw_model.specs.Groups.{rows_having}
use Rattle.bw_model.specs.Store.{Header, Row, Value, place_of, value_from}
use Rattle.bw_merge.specs.Merging.{found_in}
use Rattle.bw_merge.specs.Ranks.{below, inside, up_to}

-- the non-null values of a column
abbrev pub values_of : List Header → List ℕ → List Row → List ℤ
values_of headers name rows = known (map (λ row. value_from row (place_of headers name)) rows)

abbrev pub number : ℤ → Operand
number v = Constant (Some v)

-- a AND b finds what b finds among the rows that a finds; also with more conditions
abbrev pub AndNarrows : Type 0
AndNarrows = (headers : List Header) (part : ConditionTree) (parts : ConditionTrees) (rows : List Row)
    → found_in headers (Some (each_of (more part parts))) rows ≡ found_in headers (Some (each_of parts)) (found_in headers (Some part) rows)

-- name <= v finds as many rows as there are values that are at most v
abbrev pub RowsUpToAreCounted : Type 0
RowsUpToAreCounted = (headers : List Header) (name : List ℕ) (v : ℤ) (rows : List Row)
    → length (found_in headers (Some (comparison (Column name) Le (number v))) rows) ≡ up_to v (values_of headers name rows)

-- name < v finds as many rows as there are values that are less than v
abbrev pub RowsBelowAreCounted : Type 0
RowsBelowAreCounted = (headers : List Header) (name : List ℕ) (v : ℤ) (rows : List Row)
    → length (found_in headers (Some (comparison (Column name) Lt (number v))) rows) ≡ below v (values_of headers name rows)

-- name BETWEEN low AND high finds the rows of the values from low to high
abbrev pub RowsInsideAreFound : Type 0
RowsInsideAreFound = (headers : List Header) (name : List ℕ) (low high : ℤ) (rows : List Row)
    → values_of headers name (found_in headers (Some (between (Column name) (number low) (number high))) rows)
    ≡ inside low high (values_of headers name rows)

-- name = v, or name IS NULL
abbrev pub has_value : List ℕ → Value → ConditionTree
has_value name None = null (Column name)
has_value name (Some v) = comparison (Column name) Eq (number v)

-- this condition finds the rows of the group of this value
abbrev pub RowsOfGroupAreFound : Type 0
RowsOfGroupAreFound = (headers : List Header) (name : List ℕ) (value : Value) (rows : List Row)
    → found_in headers (Some (has_value name value)) rows ≡ rows_having (place_of headers name) value rows
