-- What every store satisfies: distinct names, rows that fit their columns, limits kept (SQL-92, tables and columns; own limits).
use Rattle.std.specs.Prelude.{◌≤◌, List, All, IsTrue, length, map}
use Rattle.bw_code.specs.Types.{IsRowOf, types_of}
use Rattle.bw_model.specs.Store.{AreHeaders, Header, Row, Store, Table, are_distinct, row_limit, table_limit}

-- for each column a value of its type
abbrev pub IsRow : List Header → Row → Type 0
IsRow headers row = IsRowOf (types_of headers) row

pub record IsTable (table : Table) : Type 0 where
  pub headers : AreHeaders table.headers
  pub rows : All (IsRow table.headers) table.rows
  pub few : length table.rows ≤ row_limit

pub record IsStore (store : Store) : Type 0 where
  pub distinct : IsTrue (are_distinct (map (λ entry. entry.0) store))
  pub few : length store ≤ table_limit
  pub tables : All (λ entry. IsTable entry.1) store
