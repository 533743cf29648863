-- What a table file holds: the headers of the columns, the number of rows, and the columns.
use Rattle.std.specs.Prelude.{All, IsTrue, List, Option, length, map, ℕ, ℤ, ◌<◌, ◌≡◌, ◌≤◌}
use Rattle.std.specs.List.{AllZip}
use Rattle.bw_code.specs.Headers.{column_limit, row_limit}
use Rattle.bw_code.specs.Types.{IsTyped, holds_its_type}
use Rattle.bw_code.specs.declared.header.Header as code
use Rattle.bw_sql.specs.Names.{IsName, are_distinct}

-- a column's header: its name is a list of bytes
abbrev pub Header : Type 0
Header = code.Header (List ℕ)

pub record Table : Type 0 where
  pub headers : List Header
  pub rows : ℕ
  pub columns : List (List (Option ℤ))

-- 1 to 64 columns, each with a distinct name, in a layout that holds its type
pub record AreHeaders (headers : List Header) : Type 0 where
  pub some : 0 < length headers
  pub few : length headers ≤ column_limit
  pub distinct : IsTrue (are_distinct (map (λ header. header.name) headers))
  pub held : All (λ header. IsTrue (holds_its_type header)) headers

-- a column for each header, with a cell of its type for each row
pub record IsTable (t : Table) : Type 0 where
  pub headers : AreHeaders t.headers
  pub names : All (λ header. IsName header.name) t.headers
  pub few : t.rows ≤ row_limit
  pub long : All (λ cells. length cells ≡ t.rows) t.columns
  pub typed : AllZip IsTyped t.headers t.columns
