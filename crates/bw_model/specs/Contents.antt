-- What a statement is told from outside the store: by its file, the rows of a CSV file (RFC 4180, as `csv` reads it) or the table
-- of a table file (this product's own); or how many units its condition reads, which is free here.
use Rattle.std.specs.Prelude.{◌≡◌, ◌⊎◌, ◌<◌, ◌^◌, ℕ, Bool, true, false, List, [], length, nat_lt, Option, Some, None, Result, Ok, Err}
use Rattle.std.specs.Bool.{MatchBool}
use Rattle.bw_code.specs.Types.{types_of}
use Rattle.bw_code.specs.declared.kind.ColumnType.{ColumnType}
use Rattle.bw_csvload.specs.Rows.{rows_of_file}
use Rattle.bw_csvload.specs.declared.fault.CsvFault.{CsvFault}
use Rattle.bw_csvload.specs.declared.load.FirstRecord.{FirstRecord as CsvFirst}
use Rattle.bw_csvload.specs.declared.load.FirstRecord.TheVariants as csv
use Rattle.bw_sql.specs.Tree.{StatementTree, load, open_table}
use Rattle.bw_sql.specs.declared.tree.FirstRecord.{FirstRecord}
use Rattle.bw_sql.specs.declared.tree.FirstRecord.TheVariants as first
use Rattle.bw_model.specs.Filing.{Holds, file_limit}
use Rattle.bw_model.specs.Store.{Row, Store, Table, table_of}
use Rattle.bw_model.specs.declared.content.Content.{Content}
use Rattle.bw_model.specs.declared.content.Content.TheVariants as content

abbrev pub is_missing_file : Content → Bool
is_missing_file content.Missing = true
is_missing_file _ = false

abbrev pub is_too_large : Content → Bool
is_too_large content.TooLarge = true
is_too_large _ = false

abbrev pub is_no_table : Content → Bool
is_no_table (content.Held table) = false
is_no_table _ = true

-- how many units a condition reads
abbrev pub units_in : Content → ℕ
units_in (content.Counted units) = units
units_in _ = 0

-- the rows that a CSV file contains
abbrev pub lines_in : Content → List Row
lines_in (content.Lines rows) = rows
lines_in _ = []

-- the table that a table file contains
abbrev pub table_held : Content → Table
table_held (content.Held table) = table
table_held _ = record { headers = []; rows = [] }

-- whether the first record is a header, in the form bw_csvload takes
abbrev pub first_of : FirstRecord → CsvFirst
first_of first.Row = csv.Row
first_of first.Header = csv.Header

abbrev pub lines_or_fault : Result (List Row) CsvFault → Content
lines_or_fault (Ok rows) = content.Lines rows
lines_or_fault (Err fault) = content.Fault fault

-- the types of a table's columns
abbrev pub types_in : Option Table → List ColumnType
types_in None = []
types_in (Some table) = types_of table.headers

-- these bytes hold this table, or none
abbrev pub IsTableIn : List ℕ → Content → Type 0
IsTableIn bytes (content.Held table) = Holds bytes table
IsTableIn bytes content.NotTable = (table : Table) → Holds bytes table → ⊥
IsTableIn bytes _ = ⊥

-- what bytes that are not too many tell a statement
abbrev pub IsReadAs : Store → StatementTree → List ℕ → Content → Type 0
IsReadAs store (load name file first) bytes said = said ≡ lines_or_fault (rows_of_file (types_in (table_of store name)) (first_of first) bytes)
IsReadAs store (open_table name file) bytes said = IsTableIn bytes said
IsReadAs store _ bytes said = said ≡ content.Nothing

-- what a file with these bytes tells a statement
abbrev pub SaysTo : Store → StatementTree → List ℕ → Content → Type 0
SaysTo store statement bytes said = MatchBool (nat_lt file_limit (length bytes)) (said ≡ content.TooLarge) (IsReadAs store statement bytes said)

-- what a file tells a statement, if there is one
abbrev pub IsSaid : Store → StatementTree → Option (List ℕ) → Content → Type 0
IsSaid store statement None said = said ≡ content.Missing
IsSaid store statement (Some bytes) said = SaysTo store statement bytes said

-- what a statement may be told: nothing, any number of units that fits 64 bits, or what a file tells it
abbrev pub MayBeSaid : Store → StatementTree → Content → Type 0
MayBeSaid store statement said =
    (said ≡ content.Nothing) ⊎ ((units : ℕ) × (units < 2 ^ 64) × (said ≡ content.Counted units)) ⊎ ((file : Option (List ℕ)) × IsSaid store statement file said)
