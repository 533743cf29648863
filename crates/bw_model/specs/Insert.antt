-- The rows that an INSERT adds (SQL-92, insert statement).
use Rattle.std.specs.Prelude.{ℕ, List, Option, Some, None, ◌++◌, map, position}
use Rattle.std.specs.Str.{bytes_eq}
use Rattle.bw_model.specs.Store.{Header, Row, Table, names, value_from}

-- the columns that the values are for: if none is listed, all of them in order
abbrev pub target_columns : List Header → Option (List (List ℕ)) → List (List ℕ)
target_columns headers None = names headers
target_columns headers (Some list) = list

-- the row of these values: a column that isn't listed is null
abbrev pub row_for : List Header → List (List ℕ) → Row → Row
row_for headers list values = map (λ header. value_from values (position (bytes_eq header.name) list)) headers

-- the table with these rows appended
abbrev pub with_rows : Option (List (List ℕ)) → List Row → Table → Table
with_rows listed rows table = record {
  headers = table.headers;
  rows = table.rows ++ map (row_for table.headers (target_columns table.headers listed)) rows;
}
