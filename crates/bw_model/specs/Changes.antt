-- The effect of UPDATE, DELETE and REBUILD on a table (SQL-92, searched update statement and searched delete statement; REBUILD
-- is this product's own).
use Rattle.std.specs.Prelude.{ℕ, List, [], ◌∷◌, Option, filter, if◌then◌else◌, map, not}
use Rattle.std.specs.Str.{bytes_eq}
use Rattle.bw_sql.specs.Tree.{ConditionTree}
use Rattle.bw_sql.specs.declared.tree.LayoutChoice.{LayoutChoice}
use Rattle.bw_sql.specs.declared.tree.Operand.{Operand}
use Rattle.bw_sql.specs.declared.tree.Operand.TheVariants.{Column}
use Rattle.bw_sql.specs.declared.tree.SetClause.{SetClause}
use Rattle.bw_model.specs.Condition.{is_found, value_of}
use Rattle.bw_model.specs.Store.{Header, Row, Table}
use Rattle.bw_model.specs.Words.{kind_or, layout_of}

-- where a column's new value comes from; a column that isn't set keeps its own
abbrev pub source_for : List SetClause → List ℕ → Operand
source_for [] name = Column name
source_for (set ∷ sets) name = if bytes_eq name set.column then set.source else source_for sets name

-- the row with its columns set, all of them computed from the row before
abbrev pub updated_row : List Header → List SetClause → Row → Row
updated_row headers sets row = map (λ header. value_of headers row (source_for sets header.name)) headers

abbrev pub updated_if_found : List Header → List SetClause → Option ConditionTree → Row → Row
updated_if_found headers sets condition row = if is_found headers condition row then updated_row headers sets row else row

-- the table with each found row updated in place
abbrev pub with_updates : List SetClause → Option ConditionTree → Table → Table
with_updates sets condition table = record {
  headers = table.headers;
  rows = map (updated_if_found table.headers sets condition) table.rows;
}

-- the table with the rows at which the condition isn't true
abbrev pub without_found : Option ConditionTree → Table → Table
without_found condition table = record {
  headers = table.headers;
  rows = filter (λ row. not (is_found table.headers condition row)) table.rows;
}

-- the column with the layout and kind chosen for it; its type stays, and its kind where none is given
abbrev pub chosen_header : List LayoutChoice → Header → Header
chosen_header [] header = header
chosen_header (choice ∷ choices) header =
    if bytes_eq header.name choice.column
    then record { name = header.name; column_type = header.column_type; layout = layout_of choice.layout; kind = kind_or choice.kind header.kind }
    else chosen_header choices header

-- the table with the layouts and kinds chosen for its columns; no row changes
abbrev pub with_choices : List LayoutChoice → Table → Table
with_choices choices table = record {
  headers = map (chosen_header choices) table.headers;
  rows = table.rows;
}
