-- The rows of records, or the first fault by record and field.
use Rattle.std.specs.Prelude.{Err, List, Ok, Option, Result, [], drop, if◌then◌else◌, length, take, zero, suc, ℕ, ℤ, ◌+◌, ◌==◌, ◌++◌, ◌∷◌, ◌≡◌, ⊤}
use Rattle.std.specs.List.{zip}
use Rattle.csv.specs.Reading.{default_config, records, strip_bom}
use Rattle.bw_code.specs.declared.kind.ColumnType.{ColumnType}
use Rattle.bw_csvload.specs.Fields.{cell_of}
use Rattle.bw_csvload.specs.declared.fault.CsvFault.{CsvFault}
use Rattle.bw_csvload.specs.declared.fault.CsvFault.TheVariants as fault
use Rattle.bw_csvload.specs.declared.fault.FieldFault.{FieldFault}
use Rattle.bw_csvload.specs.declared.fault.FieldFault.TheVariants as field
use Rattle.bw_csvload.specs.declared.load.FirstRecord.{FirstRecord}
use Rattle.bw_csvload.specs.declared.load.FirstRecord.TheVariants as first

abbrev pub Row : Type 0
Row = List (Option ℤ)

-- f of each, with its number, from n on
abbrev pub numbered : {A B : Type 0} → (ℕ → A → B) → ℕ → List A → List B
numbered f n [] = []
numbered f n (x ∷ xs) = f n x ∷ numbered f (n + 1) xs

-- one more before the others, if neither is a fault
abbrev pub before : {A : Type 0} → Result A CsvFault → Result (List A) CsvFault → Result (List A) CsvFault
before (Err e) rest = Err e
before (Ok x) (Err e) = Err e
before (Ok x) (Ok xs) = Ok (x ∷ xs)

-- all of them, or the first fault
abbrev pub all_or_first : {A : Type 0} → List (Result A CsvFault) → Result (List A) CsvFault
all_or_first [] = Ok []
all_or_first (x ∷ xs) = before x (all_or_first xs)

-- the value of field n, or its fault
abbrev pub located : {A : Type 0} → ℕ → ℕ → Result A FieldFault → Result A CsvFault
located record' n (Ok x) = Ok x
located record' n (Err field.NotInteger) = Err (fault.NotInteger record' n)
located record' n (Err field.Range) = Err fault.Range

-- the value of a field, given with its column's type
abbrev pub cell_at : ℕ → ℕ → ColumnType × List ℕ → Result (Option ℤ) CsvFault
cell_at record' n field = located record' n (cell_of field.0 field.1)

-- the row of a record whose fields belong to columns of these types in order, or its first fault
abbrev pub row_of : List ColumnType → ℕ → List (List ℕ) → Result Row CsvFault
row_of types record' fields =
    if length fields == length types then all_or_first (numbered (cell_at record') 1 (zip types fields)) else Err (fault.Fields record')

-- the rows of these records; a header is skipped unread
abbrev pub rows_of : List ColumnType → FirstRecord → List (List (List ℕ)) → Result (List Row) CsvFault
rows_of types first.Row records = all_or_first (numbered (row_of types) 1 records)
rows_of types first.Header records = all_or_first (numbered (row_of types) 2 (drop 1 records))

-- the records that `csv` reads from a text
abbrev pub csv_records : List ℕ → List (List (List ℕ))
csv_records text = records default_config (strip_bom text)

-- the rows of a file, whose leading byte order mark, if any, is dropped before `csv` reads it
abbrev pub rows_of_file : List ColumnType → FirstRecord → List ℕ → Result (List Row) CsvFault
rows_of_file types first bytes = rows_of types first (csv_records (strip_bom bytes))

-- this fault is returned where it is expected; out of memory may be returned in any case
abbrev pub IsFault : {A : Type 0} → Result A CsvFault → CsvFault → Type 0
IsFault wanted fault.Memory = ⊤
IsFault wanted e = wanted ≡ Err e

-- the expected result is returned
abbrev pub Answers : {A T : Type 0} → Result A CsvFault → (T → A) → Result T CsvFault → Type 0
Answers wanted view (Ok x) = wanted ≡ Ok (view x)
Answers wanted view (Err e) = IsFault wanted e

-- the expected values are appended
abbrev pub Appends : {A : Type 0} → Result (List A) CsvFault → List A → List A → Result (Unit {0}) CsvFault → Type 0
Appends {A = A} wanted old new (Ok done) = (added : List A) × (wanted ≡ Ok added) × (new ≡ old ++ added)
Appends wanted old new (Err e) = IsFault wanted e

-- n lines of this width
abbrev pub lines_of : {A : Type 0} → ℕ → ℕ → List A → List (List A)
lines_of width zero cells = []
lines_of width (suc n) cells = take width cells ∷ lines_of width n (drop width cells)
