-- The bytes of a table file: mark, version, counts, headers, columns, with nothing after them. Numbers are unsigned, the lowest byte first. There are two
-- versions. The first has no types, and columns of cells; the second has columns of planes.
use Rattle.std.specs.Prelude.{All, List, Option, codes, length, ℕ, ℤ, ⊤, ◌+◌, ◌++◌, ◌≡◌, ◌⊎◌}
use Rattle.std.specs.List.{flat_map, sum_by}
use Rattle.byteorder.specs.Endian.{little_bytes}
use Rattle.bw_cells.specs.Known.{known}
use Rattle.bw_code.specs.Fittings.{AreEnds}
use Rattle.bw_code.specs.declared.ends.Ends.{Ends}
use Rattle.bw_code.specs.declared.kind.ColumnType.TheVariants.{Integer}
use Rattle.bw_file.specs.Cells as cells
use Rattle.bw_file.specs.Headers.{header_bytes, header_size}
use Rattle.bw_file.specs.Planes as planes
use Rattle.bw_file.specs.Table.{IsTable, Table, Header}
use Rattle.bw_file.specs.declared.version.Version.{Version}
use Rattle.bw_file.specs.declared.version.Version.TheVariants.{First, Second}

abbrev pub mark : List ℕ
mark = codes "BITCOL"

abbrev pub version_number : Version → ℕ
version_number First = 1
version_number Second = 2

-- the number of columns and the number of rows
abbrev pub count_bytes : ℕ → ℕ → List ℕ
count_bytes columns rows = little_bytes 2 columns ++ little_bytes 4 rows

-- what comes before the headers
abbrev pub front_bytes : Version → ℕ → ℕ → List ℕ
front_bytes version columns rows = mark ++ little_bytes 2 (version_number version) ++ count_bytes columns rows

abbrev pub column_bytes : Version → List (Option ℤ) → List ℕ
column_bytes First list = cells.column_bytes list
column_bytes Second list = planes.column_bytes list

-- how many bytes a column takes
abbrev pub column_size : Version → List (Option ℤ) → ℕ
column_size First list = cells.column_size (length list)
column_size Second list = planes.column_size (planes.frame_of (known list)).width (length list)

-- the least number of bytes of a column of n rows: in version 2 with one plane
abbrev pub least_column_size : Version → ℕ → ℕ
least_column_size First rows = cells.column_size rows
least_column_size Second rows = planes.column_size 1 rows

abbrev pub spelling : Version → Table → List ℕ
spelling version t = front_bytes version (length t.headers) t.rows ++ flat_map (header_bytes version) t.headers ++ flat_map (column_bytes version) t.columns

-- a type that exists in the version: the first has only INTEGER
abbrev pub HasType : Version → Header → Type 0
HasType First header = header.column_type ≡ Integer
HasType Second header = ⊤

-- these bytes encode this table in this version
pub record SpelledBy (version : Version) (bytes : List ℕ) (t : Table) : Type 0 where
  pub table : IsTable t
  pub types : All (HasType version) t.headers
  pub bytes_are : bytes ≡ spelling version t

-- these bytes encode this table
abbrev pub Spells : List ℕ → Table → Type 0
Spells bytes t = SpelledBy First bytes t ⊎ SpelledBy Second bytes t

-- the length of the encoding of a table
abbrev pub spelled_length : Version → Table → ℕ
spelled_length version t = 14 + sum_by (header_size version) t.headers + sum_by (column_size version) t.columns

-- the ends of those cells of a column that are integers
abbrev pub AreEndsOf : Option Ends → List (Option ℤ) → Type 0
AreEndsOf ends cells = AreEnds (known cells) ends
