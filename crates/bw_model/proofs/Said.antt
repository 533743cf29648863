-- What a file may say to a statement: rows that fit the table, faults whose numbers fit, and tables that are well formed.
use Rattle.std.proofs.Common.{◌≡◌, ◌∙◌, inl, inr, ℕ, ◌<◌, ◌≤◌, ◌^◌, Bool, true, false, nat_lt, List, [], ◌∷◌, get_or, length, map, Option, None, Some, Result, Ok, Err, refl, suc, sym, subst, zero, arith}
use Rattle.std.specs.Bool.{MatchBool}
use Rattle.std.specs.List.{All, AllZip, range_with_len}
use Rattle.std.proofs.lemmas.Bool.{ltb-false, true≢false}
use Rattle.std.proofs.lemmas.List.{get_or-map, length-map}
use Rattle.std.proofs.lemmas.List.Elements.{All-nil}
use Rattle.std.proofs.lemmas.List.FromFn.{get_or-map-range_with_len}
use Rattle.bw_code.specs.Types.{IsNullOrOfType, IsRowOf, IsTyped, types_of}
use Rattle.bw_code.specs.declared.kind.ColumnType.{ColumnType}
use Rattle.bw_code.specs.declared.kind.Kind.TheVariants.{Offset}
use Rattle.bw_code.specs.declared.kind.Layout.TheVariants.{V}
use Rattle.bw_code.proofs.Types.{zipped_at, zipped_by}
use Rattle.bw_csvload.specs.Fitting as csv
use Rattle.bw_csvload.specs.Rows.{rows_of_file}
use Rattle.bw_csvload.specs.declared.fault.CsvFault.{CsvFault}
use Rattle.bw_csvload.specs.declared.fault.CsvFault.TheVariants as fault
use Rattle.bw_csvload.proofs.Fits.{rows_in_file}
use Rattle.bw_file.specs.Table as file
use Rattle.bw_sql.specs.Tree.{SelectTree, StatementTree, load, open_table, stats}
use Rattle.bw_sql.specs.declared.tree.FirstRecord.{FirstRecord}
use Rattle.bw_model.specs.Contents.{IsReadAs, IsSaid, IsTableIn, MayBeSaid, first_of, is_no_table, lines_in, lines_or_fault, table_held, types_in, units_in}
use Rattle.bw_model.specs.Filing.{Holds, column_of, file_limit, filed}
use Rattle.bw_model.specs.Named.{HaveNames}
use Rattle.bw_model.specs.Refusals.{fault_test, refusal_of_csv}
use Rattle.bw_model.specs.Store.{Header, Row, Store, Table, Value, table_of, value_at}
use Rattle.bw_model.specs.Told.{IsRefusal}
use Rattle.bw_model.specs.WellFormed.{IsRow, IsTable}
use Rattle.bw_model.proofs.OwnPlaces.{get_or-mapped}
use Rattle.bw_model.specs.declared.content.Content.{Content}
use Rattle.bw_model.specs.declared.content.Content.TheVariants as content

-- what is true of each content that may be said
module _ (store : Store) (statement : StatementTree) (P : Content → Type 0) (nothing : P content.Nothing) (counted : (units : ℕ) → units < 2 ^ 64 → P (content.Counted units)) (missing : P content.Missing) (large : P content.TooLarge)
    (read : (said : Content) (bytes : List ℕ) → length bytes ≤ file_limit → IsReadAs store statement bytes said → P said) where
  of_bytes : (b : Bool) (said : Content) (bytes : List ℕ) → nat_lt file_limit (length bytes) ≡ b → MatchBool b (said ≡ content.TooLarge) (IsReadAs store statement bytes said) → P said
  of_bytes true said bytes long is = subst P (sym is) large
  of_bytes false said bytes long is = read said bytes (ltb-false file_limit (length bytes) long) is

  of_file : (said : Content) (file : Option (List ℕ)) → IsSaid store statement file said → P said
  of_file said None is = subst P (sym is) missing
  of_file said (Some bytes) is = of_bytes (nat_lt file_limit (length bytes)) said bytes refl is

  pub each_said : (said : Content) → MayBeSaid store statement said → P said
  each_said said may =
      elim may [
        | inl is ↦ subst P (sym is) nothing
        | inr more ↦ elim more [ inl some ↦ subst P (sym some.2) (counted some.0 some.1) | inr some ↦ of_file said some.0 some.1 ]
      ]

-- CSV files

-- rows of values of these types, or a fault whose numbers fit
abbrev pub FitsTable : List ColumnType → Content → Type 0
FitsTable types (content.Lines rows) = All (IsRowOf types) rows
FitsTable types (content.Fault e) = csv.IsFaultOfText e
FitsTable types _ = Unit {0}

from_rows : (types : List ColumnType) (rows : Result (List Row) CsvFault) → csv.IsOrFault (All (IsRowOf types)) rows → FitsTable types (lines_or_fault rows)
from_rows types (Ok rows) fits = fits
from_rows types (Err e) fits = fits

pub said_to_load : (store : Store) (name file : List ℕ) (first : FirstRecord) (said : Content) → length (types_in (table_of store name)) < 2 ^ 64 → MayBeSaid store (load name file first) said
    → FitsTable (types_in (table_of store name)) said
said_to_load store name file first said few may =
    let types = types_in (table_of store name) in
    each_said store (load name file first) (FitsTable types) tt (λ units few. tt) tt tt
    (λ read bytes short is. subst (FitsTable types) (sym is) (from_rows types (rows_of_file types (first_of first) bytes) (rows_in_file types few (first_of first) bytes (omega (arith, short))))) said may

pub lines_are : (headers : List Header) (said : Content) → FitsTable (types_of headers) said → All (IsRow headers) (lines_in said)
lines_are headers (content.Lines rows) fits = fits
lines_are headers content.Nothing fits = All-nil (IsRow headers)
lines_are headers (content.Counted units) fits = All-nil (IsRow headers)
lines_are headers content.Missing fits = All-nil (IsRow headers)
lines_are headers content.TooLarge fits = All-nil (IsRow headers)
lines_are headers (content.Fault e) fits = All-nil (IsRow headers)
lines_are headers (content.Held table) fits = All-nil (IsRow headers)
lines_are headers content.NotTable fits = All-nil (IsRow headers)

fault_fits : (e : CsvFault) → csv.IsFaultOfText e → IsRefusal (refusal_of_csv e)
fault_fits (fault.Fields record') fits = fits
fault_fits (fault.NotInteger record' field) fits = fits
fault_fits fault.Range fits = tt
fault_fits fault.Memory fits = absurd fits

pub fault_is : (types : List ColumnType) (said : Content) → FitsTable types said → IsRefusal (fault_test said).0
fault_is types (content.Lines rows) fits = tt
fault_is types content.Nothing fits = tt
fault_is types (content.Counted units) fits = tt
fault_is types content.Missing fits = tt
fault_is types content.TooLarge fits = tt
fault_is types (content.Fault e) fits = fault_fits e fits
fault_is types (content.Held table) fits = tt
fault_is types content.NotTable fits = tt

-- table files

pub value_there : (row : Row) (k : ℕ) (other : Value) → k < length row → value_at row k ≡ get_or row k other
value_there [] k other within = absurd (omega arith)
value_there (value ∷ row) zero other within = refl
value_there (value ∷ row) (suc k) other within = value_there row k other (omega arith)

module _ (headers : List Header) (rows : List Row) (wide : All (λ row. length row ≡ length headers) rows) (typed : AllZip IsTyped headers (map (column_of rows) (range_with_len 0 (length headers)))) where
  cell_typed : (i : ℕ) (row : Row) (k : ℕ) (t : ColumnType) (other : Value) → i < length rows → k < length headers → length (get_or rows i row) ≡ length headers
      → IsNullOrOfType (get_or (types_of headers) k t) (get_or (get_or rows i row) k other)
  cell_typed i row k t other there within full =
      let header : Header = record { name = []; column_type = t; layout = V; kind = Offset } in
      let at = zipped_at IsTyped headers (map (column_of rows) (range_with_len 0 (length headers))) k header [] typed within in
      let column = subst (All (IsNullOrOfType (get_or headers k header).column_type)) (get_or-map-range_with_len (column_of rows) 0 (length headers) k k [] within (omega arith)) at in
      let cell = column i other (omega (arith, there, length-map rows (λ r. value_at r k))) in
      let here = subst (IsNullOrOfType (get_or headers k header).column_type) (get_or-map (λ r. value_at r k) rows i row other there ∙ value_there (get_or rows i row) k other (omega arith)) cell in
      subst (λ u. IsNullOrOfType u (get_or (get_or rows i row) k other)) (sym (get_or-mapped (λ h. h.column_type) headers k header t within)) here

  rows_held : All (IsRow headers) rows
  rows_held = λ i row there.
      let full : length (get_or rows i row) ≡ length headers = wide i row there in
      zipped_by IsNullOrOfType (types_of headers) (get_or rows i row) (full ∙ sym (length-map headers (λ h. h.column_type)))
      (λ k t other low. cell_typed i row k t other there (omega (arith, low, length-map headers (λ h. h.column_type))) full)

-- a well-formed table whose columns have names
pub record IsHeld (table : Table) : Type 0 where
  pub is : IsTable table
  pub named : HaveNames table.headers

held : (bytes : List ℕ) (table : Table) → Holds bytes table → IsHeld table
held bytes table holds =
    let filed_is : file.IsTable (filed table) = elim holds.spells [ inl first ↦ first.table | inr second ↦ second.table ] in
    record {
      is = record {
        headers = filed_is.headers;
        rows = rows_held table.headers table.rows holds.wide filed_is.typed;
        few = filed_is.few;
      };
      named = filed_is.names;
    }

-- the table that is said is one, where one is said
abbrev IsHeldIn : Content → Type 0
IsHeldIn said = is_no_table said ≡ false → IsHeld (table_held said)

read_table : (bytes : List ℕ) (said : Content) → IsTableIn bytes said → IsHeldIn said
read_table bytes (content.Held table) is = λ there. held bytes table is
read_table bytes content.NotTable is = λ there. absurd (true≢false there)
read_table bytes content.Nothing is = absurd is
read_table bytes (content.Counted units) is = absurd is
read_table bytes content.Missing is = absurd is
read_table bytes content.TooLarge is = absurd is
read_table bytes (content.Lines rows) is = absurd is
read_table bytes (content.Fault e) is = absurd is

pub said_to_open : (store : Store) (name file : List ℕ) (said : Content) → MayBeSaid store (open_table name file) said → is_no_table said ≡ false → IsHeld (table_held said)
said_to_open store name file said may =
    each_said store (open_table name file) IsHeldIn (λ there. absurd (true≢false there)) (λ units few there. absurd (true≢false there)) (λ there. absurd (true≢false there)) (λ there. absurd (true≢false there))
    (λ read bytes short is. read_table bytes read is) said may

-- what is said of units is few enough for a reply

pub units_said : (store : Store) (query : SelectTree) (said : Content) → MayBeSaid store (stats query) said → units_in said < 2 ^ 64
units_said store query said may =
    each_said store (stats query) (λ c. units_in c < 2 ^ 64) (omega arith) (λ units few. few) (omega arith) (omega arith)
    (λ read bytes short is. subst (λ c. units_in c < 2 ^ 64) (sym is) (omega arith)) said may
