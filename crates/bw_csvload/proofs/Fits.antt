-- The rows of a file are of the columns' types, and its fault's numbers fit 64 bits.
use Rattle.std.proofs.Common.{Bool, Err, List, None, Ok, Option, Result, Some, [], arith, drop, false, if◌then◌else◌, length, length-drop, refl, true, ℕ, ℤ, ◌<◌, ◌+◌, ◌^◌, ◌≡◌, ◌∷◌, ◌≤◌}
use Rattle.std.specs.Prelude.{◌==◌}
use Rattle.std.specs.List.{All, zip}
use Rattle.std.specs.Str.Parse.{digits_value}
use Rattle.std.proofs.lemmas.Bool.{eqb-true}
use Rattle.std.proofs.lemmas.List.Elements.{All-cons, All-nil}
use Rattle.bw_code.specs.Types.{IsNullOrOfType, IsRowOf, is_of_type}
use Rattle.bw_code.specs.declared.kind.ColumnType.{ColumnType}
use Rattle.bw_code.proofs.Types.{of_type}
use Rattle.bw_csvload.specs.Fields.{are_digits, cell_of, is_minus, is_null, signed, within_type, without_sign}
use Rattle.bw_csvload.specs.Fitting.{IsOrFault}
use Rattle.bw_csvload.specs.Rows.{Row, all_or_first, before, cell_at, csv_records, located, numbered, row_of, rows_of, rows_of_file}
use Rattle.bw_csvload.specs.declared.fault.CsvFault.{CsvFault}
use Rattle.bw_csvload.specs.declared.fault.CsvFault.TheVariants as fault
use Rattle.bw_csvload.specs.declared.fault.FieldFault.{FieldFault}
use Rattle.bw_csvload.specs.declared.fault.FieldFault.TheVariants as field
use Rattle.bw_csvload.specs.declared.load.FirstRecord.{FirstRecord}
use Rattle.bw_csvload.specs.declared.load.FirstRecord.TheVariants as first
use Rattle.csv.specs.Reading.{strip_bom}
use Rattle.bw_csvload.proofs.Fuel.{length-csv_records, length-strip_bom}

-- a field says null, an integer of its column's type, or a fault

abbrev IsFieldCell : ColumnType → Result (Option ℤ) FieldFault → Type 0
IsFieldCell t (Ok cell) = IsNullOrOfType t cell
IsFieldCell t (Err e) = Unit {0}

integer_fits : (t : ColumnType) (x : ℤ) → IsFieldCell t (within_type t x)
integer_fits t x = by (is_of_type t x) refl
  where
    by : (b : Bool) → is_of_type t x ≡ b → IsFieldCell t (if b then Ok (Some x) else Err field.Range)
    by true e = of_type t x e
    by false e = tt

field_fits : (t : ColumnType) (text : List ℕ) → IsFieldCell t (cell_of t text)
field_fits t text = let x = signed (is_minus text) (digits_value 10 (without_sign text)) in by (is_null text) (are_digits (without_sign text)) (within_type t x) (integer_fits t x)
  where
    by : (null digits : Bool) (integer : Result (Option ℤ) FieldFault) → IsFieldCell t integer → IsFieldCell t (if null then Ok None else if digits then integer else Err field.NotInteger)
    by true digits integer fits = tt
    by false true integer fits = fits
    by false false integer fits = tt

cell_fits : (record' place : ℕ) (t : ColumnType) (text : List ℕ) → record' < 2 ^ 64 → place < 2 ^ 64 → IsOrFault (IsNullOrOfType t) (cell_at record' place (t, text))
cell_fits record' place t text few near = by (cell_of t text) (field_fits t text)
  where
    by : (said : Result (Option ℤ) FieldFault) → IsFieldCell t said → IsOrFault (IsNullOrOfType t) (located record' place said)
    by (Ok cell) fits = fits
    by (Err field.NotInteger) fits = (few, near)
    by (Err field.Range) fits = tt

-- one of each, of this kind
pub record AreEach {A : Type 0} (P : A → Type 0) (count : ℕ) (xs : List A) : Type 0 where
  pub full : length xs ≡ count
  pub all : All P xs

module _ {A B : Type 0} (P : B → Type 0) (f : ℕ → A → Result B CsvFault) (limit : ℕ) (fits : (n : ℕ) (x : A) → n < limit → IsOrFault P (f n x)) where
  one_more : (count : ℕ) (one : Result B CsvFault) (rest : Result (List B) CsvFault) → IsOrFault P one → IsOrFault (AreEach P count) rest → IsOrFault (AreEach P (count + 1)) (before one rest)
  one_more count (Err e) rest is are = is
  one_more count (Ok x) (Err e) is are = are
  one_more count (Ok x) (Ok xs) is are = let full = are.full in record { full = omega arith; all = All-cons P x xs is are.all }

  pub each_fits : (n : ℕ) (xs : List A) → n + length xs ≤ limit → IsOrFault (AreEach P (length xs)) (all_or_first (numbered f n xs))
  each_fits n [] few = record { full = refl; all = All-nil P }
  each_fits n (x ∷ xs) few =
      let deeper = one_more (length xs) (f n x) (all_or_first (numbered f (n + 1) xs)) (fits n x (omega arith)) (each_fits (n + 1) xs (omega arith)) in
      let count : length xs + 1 ≡ length (x ∷ xs) = omega arith in
      rw count at deeper

-- the row of a record

cell_more : (t : ColumnType) (types : List ColumnType) (one : Result (Option ℤ) CsvFault) (rest : Result Row CsvFault)
    → IsOrFault (IsNullOrOfType t) one → IsOrFault (IsRowOf types) rest → IsOrFault (IsRowOf (t ∷ types)) (before one rest)
cell_more t types (Err e) rest is are = is
cell_more t types (Ok cell) (Err e) is are = are
cell_more t types (Ok cell) (Ok row) is are = (is, are)

cells_fit : (record' n : ℕ) (types : List ColumnType) (fields : List (List ℕ)) → record' < 2 ^ 64 → length fields ≡ length types → n + length types ≤ 2 ^ 64 → IsOrFault (IsRowOf types) (all_or_first (numbered (cell_at record') n (zip types fields)))
cells_fit record' n [] [] few same near = tt
cells_fit record' n [] (text ∷ fields) few same near = absurd (omega (arith, same))
cells_fit record' n (t ∷ types) [] few same near = absurd (omega (arith, same))
cells_fit record' n (t ∷ types) (text ∷ fields) few same near =
    cell_more t types (cell_at record' n (t, text)) (all_or_first (numbered (cell_at record') (n + 1) (zip types fields)))
    (cell_fits record' n t text few (omega (arith, near)))
    (cells_fit record' (n + 1) types fields few (omega (arith, same)) (omega (arith, near)))

row_fits : (types : List ColumnType) (n : ℕ) (fields : List (List ℕ)) → length types < 2 ^ 64 → n < 2 ^ 64 → IsOrFault (IsRowOf types) (row_of types n fields)
row_fits types n fields few near = by (length fields == length types) refl
  where
    by : (b : Bool) → (length fields == length types) ≡ b → IsOrFault (IsRowOf types) (if b then all_or_first (numbered (cell_at n) 1 (zip types fields)) else Err (fault.Fields n))
    by true e = cells_fit n 1 types fields near (eqb-true (length fields) (length types) e) (omega (arith, few))
    by false e = near

module _ (types : List ColumnType) (few : length types < 2 ^ 64) where
  rows_from : (n : ℕ) (records : List (List (List ℕ))) → n + length records ≤ 2 ^ 64 → IsOrFault (All (IsRowOf types)) (all_or_first (numbered (row_of types) n records))
  rows_from n records near = by (all_or_first (numbered (row_of types) n records)) (each_fits (IsRowOf types) (row_of types) (2 ^ 64) (λ m fields within. row_fits types m fields few within) n records near)
    where
      by : (rows : Result (List Row) CsvFault) → IsOrFault (AreEach (IsRowOf types) (length records)) rows → IsOrFault (All (IsRowOf types)) rows
      by (Ok rows) are = are.all
      by (Err e) are = are

  rows_among : (first : FirstRecord) (records : List (List (List ℕ))) → length records < 2 ^ 63 → IsOrFault (All (IsRowOf types)) (rows_of types first records)
  rows_among first.Row records near = rows_from 1 records (omega arith)
  rows_among first.Header records near = rows_from 2 (drop 1 records) (omega (arith, length-drop 1 records))

  pub rows_in_file : (first : FirstRecord) (bytes : List ℕ) → length bytes < 2 ^ 62 → IsOrFault (All (IsRowOf types)) (rows_of_file types first bytes)
  rows_in_file first bytes near = rows_among first (csv_records (strip_bom bytes)) (omega (arith, length-csv_records (strip_bom bytes), length-strip_bom bytes))
