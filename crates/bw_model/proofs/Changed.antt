-- What UPDATE, DELETE and REBUILD make of a table is a table.
use Rattle.std.proofs.Common.{◌≡◌, ◌∙◌, ℕ, ◌≤◌, Bool, true, false, ◌||◌, not, IsTrue, List, [], ◌∷◌, ap, get_or, length, map, Option, None, if◌then◌else◌, refl, sym, subst, arith}
use Rattle.std.specs.List.{All, filter, list_all, list_any}
use Rattle.std.specs.Str.{bytes_eq}
use Rattle.std.proofs.lemmas.Bool.{not-false}
use Rattle.std.proofs.lemmas.List.{length-map}
use Rattle.std.proofs.lemmas.List.Elements.{All-cons, All-filter, All-head, All-nil, All-tail}
use Rattle.std.proofs.lemmas.List.Filters.{length-filter_both}
use Rattle.bw_sql.specs.Tree.{ConditionTree}
use Rattle.bw_sql.specs.declared.tree.LayoutChoice.{LayoutChoice}
use Rattle.bw_sql.specs.declared.tree.SetClause.{SetClause}
use Rattle.bw_model.specs.Changes.{chosen_header, source_for, updated_if_found, updated_row, with_choices, with_updates, without_found}
use Rattle.bw_model.specs.Condition.{found_rows, is_found, value_of}
use Rattle.bw_model.specs.Refusals.{first_that_holds, fits_in, is_too_narrow, rebuild_tests, update_tests}
use Rattle.bw_model.specs.Store.{AreHeaders, Header, Row, Table, are_distinct, names, place_of, type_named}
use Rattle.bw_model.specs.WellFormed.{IsRow, IsTable}
use Rattle.bw_model.proofs.Naming.{chosen_names}
use Rattle.bw_code.specs.Types.{IsNullOrOfType, IsRowOf, is_null_or_of_type, types_of}
use Rattle.bw_code.proofs.Types.{null_or_of_type}
use Rattle.bw_model.specs.Words.{kind_or, layout_of}
use Rattle.bw_model.proofs.Names.{headers_from}
use Rattle.bw_model.proofs.Passing.{none_holds, two}
use Rattle.bw_model.proofs.Typed.{own_type, row_made, typed_from}
use Rattle.std.proofs.lemmas.Slice.Eq.{bytes_eq-Decides}

pub everywhere : {A : Type 0} (P : A → Type 0) (xs : List A) → ((x : A) → P x) → All P xs
everywhere P [] each = All-nil P
everywhere P (x ∷ xs) each = All-cons P x xs (each x) (everywhere P xs each)

-- an updated row

module _ (headers : List Header) (row : Row) (is : IsRow headers row) where
  source_typed : (sets : List SetClause) (name : List ℕ) → fits_in headers sets row ≡ true → IsNullOrOfType (type_named headers name) (value_of headers row (source_for sets name))
  source_typed [] name fits = typed_from headers row (place_of headers name) is
  source_typed (set ∷ sets) name fits =
      let p = two (is_null_or_of_type (type_named headers set.column) (value_of headers row set.source)) (fits_in headers sets row) fits in
      by (bytes_eq name set.column) refl (null_or_of_type (type_named headers set.column) (value_of headers row set.source) p.0) (source_typed sets name p.1)
    where
      by : (b : Bool) → bytes_eq name set.column ≡ b → IsNullOrOfType (type_named headers set.column) (value_of headers row set.source) → IsNullOrOfType (type_named headers name) (value_of headers row (source_for sets name))
          → IsNullOrOfType (type_named headers name) (value_of headers row (if b then set.source else source_for sets name))
      by true same here others = subst (λ n. IsNullOrOfType (type_named headers n) (value_of headers row set.source)) (sym ((bytes_eq-Decides name set.column).0 same)) here
      by false other here others = others

  row_updated : (sets : List SetClause) → IsTrue (are_distinct (names headers)) → fits_in headers sets row ≡ true → IsRow headers (updated_row headers sets row)
  row_updated sets distinct fits =
      row_made headers (λ header. value_of headers row (source_for sets header.name))
      (λ k d low. subst (λ t. IsNullOrOfType t (value_of headers row (source_for sets (get_or headers k d).name))) (own_type headers k d distinct low)
      (source_typed sets (get_or headers k d).name fits))

module _ (headers : List Header) (distinct : IsTrue (are_distinct (names headers))) (sets : List SetClause) (condition : Option ConditionTree) where
  rows_updated : (rows : List Row) → list_all (fits_in headers sets) (filter (is_found headers condition) rows) ≡ true → All (IsRow headers) rows
      → All (IsRow headers) (map (updated_if_found headers sets condition) rows)
  rows_updated [] fits all = All-nil (IsRow headers)
  rows_updated (row ∷ rows) fits all = by (is_found headers condition row) fits (λ others. rows_updated rows others (All-tail (IsRow headers) row rows all))
    where
      this : IsRow headers row
      this = All-head (IsRow headers) row rows all

      by : (b : Bool) → list_all (fits_in headers sets) (if b then row ∷ filter (is_found headers condition) rows else filter (is_found headers condition) rows) ≡ true
          → (list_all (fits_in headers sets) (filter (is_found headers condition) rows) ≡ true → All (IsRow headers) (map (updated_if_found headers sets condition) rows))
          → All (IsRow headers) ((if b then updated_row headers sets row else row) ∷ map (updated_if_found headers sets condition) rows)
      by true found deeper =
          let p = two (fits_in headers sets row) (list_all (fits_in headers sets) (filter (is_found headers condition) rows)) found in
          All-cons (IsRow headers) (updated_row headers sets row) (map (updated_if_found headers sets condition) rows) (row_updated headers row this sets distinct p.0) (deeper p.1)
      by false found deeper = All-cons (IsRow headers) row (map (updated_if_found headers sets condition) rows) this (deeper found)

pub updated_table : (table : Table) (sets : List SetClause) (condition : Option ConditionTree) → IsTable table → first_that_holds (update_tests sets condition table) ≡ None → IsTable (with_updates sets condition table)
updated_table table sets condition is none =
    let p = none_holds (update_tests sets condition table) none in
    record {
      headers = is.headers;
      rows = rows_updated table.headers is.headers.distinct sets condition table.rows (not-false (list_all (fits_in table.headers sets) (found_rows table condition)) p.1.1.1.1.1.1.0) is.rows;
      few = omega (arith, is.few, length-map table.rows (updated_if_found table.headers sets condition));
    }

-- rows that are left

pub few_found : (table : Table) (condition : Option ConditionTree) → length (found_rows table condition) ≤ length table.rows
few_found table condition =
    omega (arith, length-filter_both (is_found table.headers condition) (λ row. not (is_found table.headers condition row)) (λ row. refl) table.rows)

pub table_left : (table : Table) (condition : Option ConditionTree) → IsTable table → IsTable (without_found condition table)
table_left table condition is = record {
  headers = is.headers;
  rows = All-filter (λ row. not (is_found table.headers condition row)) (IsRow table.headers) table.rows is.rows;
  few = omega (arith, is.few, length-filter_both (is_found table.headers condition) (λ row. not (is_found table.headers condition row)) (λ row. refl) table.rows);
}

-- columns that are rebuilt

module _ (choices : List LayoutChoice) where
  chosen_type : (header : Header) (list : List LayoutChoice) → (chosen_header list header).column_type ≡ header.column_type
  chosen_type header [] = refl
  chosen_type header (choice ∷ list) = by (bytes_eq header.name choice.column) (chosen_type header list)
    where
      by : (b : Bool) → (chosen_header list header).column_type ≡ header.column_type
          → (if b then record { name = header.name; column_type = header.column_type; layout = layout_of choice.layout; kind = kind_or choice.kind header.kind } else chosen_header list header).column_type ≡ header.column_type
      by true later = refl
      by false later = later

  chosen_types : (headers : List Header) → types_of (map (chosen_header choices) headers) ≡ types_of headers
  chosen_types [] = refl
  chosen_types (header ∷ headers) = λ j. chosen_type header choices j ∷ chosen_types headers j

  pub any_chosen : (headers : List Header) → list_any (λ header. is_too_narrow (chosen_header choices header)) headers ≡ list_any is_too_narrow (map (chosen_header choices) headers)
  any_chosen [] = refl
  any_chosen (header ∷ headers) = ap (λ b. is_too_narrow (chosen_header choices header) || b) (any_chosen headers)

  chosen_headers : (headers : List Header) → AreHeaders headers → list_any (λ header. is_too_narrow (chosen_header choices header)) headers ≡ false → AreHeaders (map (chosen_header choices) headers)
  chosen_headers headers are wide =
      headers_from (map (chosen_header choices) headers) (omega (arith, are.some, length-map headers (chosen_header choices))) (omega (arith, are.few, length-map headers (chosen_header choices)))
      (subst (λ l. are_distinct l ≡ true) (sym (chosen_names choices headers)) are.distinct) (sym (any_chosen headers) ∙ wide)

pub chosen_table : (table : Table) (choices : List LayoutChoice) → IsTable table → first_that_holds (rebuild_tests choices table) ≡ None → IsTable (with_choices choices table)
chosen_table table choices is none =
    let p = none_holds (rebuild_tests choices table) none in
    record {
      headers = chosen_headers choices table.headers is.headers p.1.1.0;
      rows = subst (λ types. All (IsRowOf types) table.rows) (sym (chosen_types choices table.headers)) is.rows;
      few = is.few;
    }
