-- A table as a table file holds it: by columns (this product's own format).
use Rattle.std.specs.Prelude.{◌≡◌, ℕ, List, All, length, map}
use Rattle.std.specs.List.{range_with_len}
use Rattle.bw_file.specs.Format.{SpelledBy, Spells, spelled_length}
use Rattle.bw_file.specs.declared.version.Version.{Version}
use Rattle.bw_file.specs.declared.version.Version.TheVariants.{Second}
use Rattle.bw_file.specs.Table as file
use Rattle.bw_model.specs.Store.{Row, Table, Value, value_at}

-- the greatest length of a file in bytes
abbrev pub file_limit : ℕ
file_limit = 268435456

-- column k of rows, in the order of the rows
abbrev pub column_of : List Row → ℕ → List Value
column_of rows k = map (λ row. value_at row k) rows

-- the table as columns
abbrev pub filed : Table → file.Table
filed table = record {
  headers = table.headers;
  rows = length table.rows;
  columns = map (column_of table.rows) (range_with_len 0 (length table.headers));
}

-- these bytes hold this table: they encode it in one of the versions of the format, and each row has a value for each column
pub record Holds (bytes : List ℕ) (table : Table) : Type 0 where
  pub wide : All (λ row. length row ≡ length table.headers) table.rows
  pub spells : Spells bytes (filed table)

-- the same in this version
pub record HoldsBy (version : Version) (bytes : List ℕ) (table : Table) : Type 0 where
  pub wide : All (λ row. length row ≡ length table.headers) table.rows
  pub spells : SpelledBy version bytes (filed table)

-- how many bytes hold a table in the second version of the format, in which it is saved
abbrev pub filed_length : Table → ℕ
filed_length table = spelled_length Second (filed table)
