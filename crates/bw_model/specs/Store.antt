-- The content of a store: tables in the order of their creation, each with its columns and its rows (SQL-92, tables).
use Rattle.std.specs.Prelude.{ℕ, ℤ, List, [], ◌∷◌, Option, Some, None, map, position, slice_get, slice_index_or, if◌then◌else◌}
use Rattle.std.specs.Str.{bytes_eq}
-- the greatest number of columns and of rows of a table
pub use Rattle.bw_code.specs.Headers.{column_limit, row_limit}
use Rattle.bw_code.specs.Types.{types_of}
use Rattle.bw_code.specs.declared.kind.ColumnType.{ColumnType}
use Rattle.bw_code.specs.declared.kind.ColumnType.TheVariants.{Integer}
use Rattle.bw_code.specs.declared.kind.Kind.TheVariants.{Offset}
use Rattle.bw_code.specs.declared.kind.Layout.TheVariants.{V}
-- no name occurs twice in the list
pub use Rattle.bw_sql.specs.Names.{are_distinct}
-- a column's name, type, layout and kind; 1 to 64 of them, with distinct names, each with a layout that holds its type
pub use Rattle.bw_file.specs.Table.{AreHeaders, Header}
use Rattle.bw_sql.specs.declared.tree.ColumnDefinition.{ColumnDefinition}
use Rattle.bw_model.specs.Words.{kind_or, layout_or, type_of}

-- an integer, or null
abbrev pub Value : Type 0
Value = Option ℤ

abbrev pub Row : Type 0
Row = List Value

pub record Table : Type 0 where
  pub headers : List Header
  pub rows : List Row

abbrev pub Store : Type 0
Store = List (List ℕ × Table)

abbrev pub names : List Header → List (List ℕ)
names headers = map (λ h. h.name) headers

abbrev pub table_limit : ℕ
table_limit = 64

-- the table with this name
abbrev pub table_of : Store → List ℕ → Option Table
table_of [] name = None
table_of (entry ∷ store) name = if bytes_eq name entry.0 then Some entry.1 else table_of store name

-- the index of the column with this name
abbrev pub place_of : List Header → List ℕ → Option ℕ
place_of headers name = position (λ header. bytes_eq name header.name) headers

-- the column that a definition makes: in layout V and of kind OFFSET if it states none
abbrev pub header_of : ColumnDefinition → Header
header_of definition = record {
  name = definition.name;
  column_type = type_of definition.column_type;
  layout = layout_or definition.layout V;
  kind = kind_or definition.kind Offset;
}

-- the type of the column at this index; unspecified if there is none
abbrev pub type_at : List Header → Option ℕ → ColumnType
type_at headers None = Integer
type_at headers (Some place) = slice_index_or (types_of headers) place Integer

-- the type of the column with this name
abbrev pub type_named : List Header → List ℕ → ColumnType
type_named headers name = type_at headers (place_of headers name)

abbrev pub value_or_null : Option Value → Value
value_or_null None = None
value_or_null (Some value) = value

-- the value at this index of a row, or null if there is none
abbrev pub value_at : Row → ℕ → Value
value_at row place = value_or_null (slice_get row place)

abbrev pub value_from : Row → Option ℕ → Value
value_from row None = None
value_from row (Some place) = value_at row place
