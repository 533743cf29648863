-- Each reply of a step is one that its text tells.
use Rattle.std.proofs.Common.{◌≡◌, inl, inr, ℕ, pos, ◌+◌, ◌<◌, ◌≤◌, ◌^◌, Bool, true, false, not, is_some, FitsSigned, List, [], ◌∷◌, get_or, length, map, Option, None, Some, if◌then◌else◌, refl, sym, ap, subst, arith}
use Rattle.std.specs.Int.{w128}
use Rattle.std.specs.List.{All, list_any}
use Rattle.std.specs.Str.{bytes_eq}
use Rattle.std.proofs.lemmas.Bool.{ltb-false, true≢false}
use Rattle.std.proofs.lemmas.List.Elements.{All-cons, All-filter, All-get_or, All-head, All-map, All-nil, All-tail}
use Rattle.std.proofs.lemmas.List.{length-map}
use Rattle.std.proofs.lemmas.List.Quantifiers.{position-Some}
use Rattle.std.proofs.lemmas.Slice.Eq.{bytes_eq-Decides}
use Rattle.bw_sql.specs.Names.{IsName}
use Rattle.bw_sql.specs.Tree.{ConditionTree, SelectTree, StatementTree, create_table, delete, drop_table, insert, list_tables, load, open_table, rebuild, save, select, stats, update}
use Rattle.bw_code.specs.declared.kind.Layout.TheVariants.{V}
use Rattle.bw_code.specs.declared.kind.Kind.TheVariants.{Offset}
use Rattle.bw_model.specs.Condition.{found_rows, is_found}
use Rattle.bw_model.specs.Contents.{MayBeSaid, lines_in, table_held, types_in}
use Rattle.bw_model.specs.Insert.{target_columns}
use Rattle.bw_model.specs.Listing.{listing, table_line}
use Rattle.bw_model.specs.Named.{AreNamed, HaveNames}
use Rattle.bw_model.specs.Refusals.{Tests, delete_tests, first_that_holds, insert_tests, is_missing, load_tests, open_tests, over, query_tests, rebuild_tests, save_tests, select_tests, tests_of, update_tests}
use Rattle.bw_model.specs.Select.{answer, columns_in, function_heading, has_functions, heading_of, line_of, lines_for, said_in, said_of, shown, shown_items}
use Rattle.bw_sql.specs.declared.tree.SelectItem.{SelectItem}
use Rattle.bw_sql.specs.declared.tree.SelectItem.TheVariants as item
use Rattle.bw_sql.specs.declared.tree.SetFunction.{SetFunction}
use Rattle.bw_sql.specs.declared.tree.SetFunction.TheVariants.{Count, Sum, Min, Max, Median}
use Rattle.std.proofs.lemmas.List.Filters.{length-filter_both}
use Rattle.bw_model.specs.Groups.{group_values, is_same, rows_having}
use Rattle.bw_model.proofs.Folded.{IsNullOrStored, all_grouped, folded_fits}
use Rattle.bw_model.specs.Step.{Step, carried_out, refused_or, table_or_none}
use Rattle.bw_model.specs.Store.{Header, Row, Store, Table, Value, place_of, row_limit, table_of, type_at, value_from}
use Rattle.bw_model.specs.Told.{IsCell, IsHeading, IsRefusal, IsReply}
use Rattle.bw_model.specs.WellFormed.{IsRow, IsStore, IsTable}
use Rattle.bw_model.specs.declared.answer.Cell.TheVariants.{Name, Number}
use Rattle.bw_model.specs.declared.answer.Heading.TheVariants.{Columns}
use Rattle.bw_model.specs.declared.answer.Heading.TheVariants.{Table as Table', Rows as Rows'}
use Rattle.bw_model.specs.declared.content.Content.{Content}
use Rattle.bw_model.specs.declared.refusal.Refusal.{Refusal}
use Rattle.bw_model.specs.declared.reply.Reply.{Reply}
use Rattle.bw_model.specs.declared.reply.Reply.TheVariants.{Rows}
use Rattle.bw_code.specs.Types.{IsNullOrOfType, types_of}
use Rattle.bw_code.specs.declared.kind.ColumnType.{ColumnType}
use Rattle.bw_code.specs.declared.kind.ColumnType.TheVariants.{BigInt, Integer}
use Rattle.std.proofs.lemmas.Int.{ints}
use Rattle.bw_model.proofs.Changed.{everywhere, few_found}
use Rattle.bw_model.proofs.Typed.{typed_from}
use Rattle.bw_model.proofs.Kept.{fits_loaded, table_in}
use Rattle.bw_model.proofs.Naming.{named_in}
use Rattle.bw_model.proofs.Passing.{neither, none_holds}
use Rattle.bw_model.proofs.Said.{FitsTable, fault_is, said_to_open, units_said}

-- the refusals of a statement: those that tell a record of a file have numbers that fit

abbrev ArePlain : Tests → Type 0
ArePlain [] = Unit {0}
ArePlain (test ∷ tests) = IsRefusal test.0 × ArePlain tests

plain_first : (tests : Tests) (refusal : Refusal) → ArePlain tests → first_that_holds tests ≡ Some refusal → IsRefusal refusal
plain_first [] refusal plain e = cc
plain_first (test ∷ tests) refusal plain e = by test.1 e (λ later. plain_first tests refusal plain.1 later)
  where
    by : (b : Bool) → (if b then Some test.0 else first_that_holds tests) ≡ Some refusal → (first_that_holds tests ≡ Some refusal → IsRefusal refusal) → IsRefusal refusal
    by true here later = let same : test.0 ≡ refusal = cc in subst IsRefusal same plain.0
    by false here later = later here

plain_over : (there : Option Table) (tests : Table → Tests) → ((table : Table) → ArePlain (tests table)) → ArePlain (over there tests)
plain_over None tests each = (tt, tt)
plain_over (Some table) tests each = each table

plain_load : (there : Option Table) (said : Content) → FitsTable (types_in there) said → ArePlain (over there (load_tests said))
plain_load None said fits = (tt, tt)
plain_load (Some table) said fits = (tt, (tt, (fault_is (types_of table.headers) said fits, (tt, tt))))

plain_query : (query : SelectTree) (store : Store) → ArePlain (query_tests query store)
plain_query query store = plain_over (table_of store query.table) (λ table. select_tests query table.headers) (λ table. (tt, (tt, (tt, (tt, (tt, tt))))))

plain_tests : (store : Store) (said : Content) (statement : StatementTree) → IsStore store → MayBeSaid store statement said → ArePlain (tests_of store said statement)
plain_tests store said (create_table name definitions) are may = (tt, (tt, (tt, (tt, tt))))
plain_tests store said (drop_table name) are may = plain_over (table_of store name) (λ table. []) (λ table. tt)
plain_tests store said list_tables are may = tt
plain_tests store said (insert name listed rows) are may =
    plain_over (table_of store name) (λ table. insert_tests (target_columns table.headers listed) rows table) (λ table. (tt, (tt, (tt, (tt, (tt, tt))))))
plain_tests store said (update name sets condition) are may =
    plain_over (table_of store name) (update_tests sets condition) (λ table. (tt, (tt, (tt, (tt, (tt, (tt, (tt, tt))))))))
plain_tests store said (delete name condition) are may = plain_over (table_of store name) (λ table. delete_tests condition table) (λ table. (tt, (tt, tt)))
plain_tests store said (rebuild name choices) are may = plain_over (table_of store name) (rebuild_tests choices) (λ table. (tt, (tt, (tt, tt))))
plain_tests store said (select query) are may = plain_query query store
plain_tests store said (stats query) are may = plain_query query store
plain_tests store said (load name file first) are may = plain_load (table_of store name) said (fits_loaded store name file first said are may)
plain_tests store said (save name file) are may = plain_over (table_of store name) save_tests (λ table. (tt, tt))
plain_tests store said (open_table name file) are may = (tt, (tt, (tt, (tt, (tt, tt)))))

-- cells

cell_fits : (value : Value) → IsNullOrStored value → IsCell (shown value)
cell_fits None e = tt
cell_fits (Some n) e = omega (arith, ints, e)

stored : (t : ColumnType) (value : Value) → IsNullOrOfType t value → IsNullOrStored value
stored t None is = tt
stored Integer (Some n) is = omega (arith, ints, is)
stored BigInt (Some n) is = is

place_fits : (headers : List Header) (row : Row) (place : Option ℕ) → IsRow headers row → IsNullOrStored (value_from row place)
place_fits headers row place is = stored (type_at headers place) (value_from row place) (typed_from headers row place is)

line_fits : (headers : List Header) (list : List (List ℕ)) (row : Row) → IsRow headers row → All IsCell (line_of headers list row)
line_fits headers list row is =
    All-map IsCell (λ name. shown (value_from row (place_of headers name))) list
    (everywhere (λ name. IsCell (shown (value_from row (place_of headers name)))) list
    (λ name. cell_fits (value_from row (place_of headers name)) (place_fits headers row (place_of headers name) is)))

lines_fit : (headers : List Header) (list : List (List ℕ)) (rows : List Row) → All (IsRow headers) rows → All (All IsCell) (map (line_of headers list) rows)
lines_fit headers list [] all = All-nil (All IsCell)
lines_fit headers list (row ∷ rows) all =
    All-cons (All IsCell) (line_of headers list row) (map (line_of headers list) rows) (line_fits headers list row (All-head (IsRow headers) row rows all))
    (lines_fit headers list rows (All-tail (IsRow headers) row rows all))

-- headings: a column that isn't missing has the name of one that is there

name_there : (headers : List Header) (name : List ℕ) (place : Option ℕ) → place_of headers name ≡ place → not (is_some place) ≡ false → HaveNames headers → IsName name
name_there headers name None at there named = absurd (true≢false there)
name_there headers name (Some i) at there named =
    let header : Header = record { name = name; column_type = Integer; layout = V; kind = Offset } in
    let p = position-Some (λ h. bytes_eq name h.name) headers i header at in
    let same = (bytes_eq-Decides name (get_or headers i header).name).0 p.1 in
    subst IsName (sym same) (All-get_or (λ h. IsName h.name) headers i header p.0 named)

names_there : (headers : List Header) (list : List (List ℕ)) → list_any (is_missing headers) list ≡ false → HaveNames headers → All IsName list
names_there headers [] e named = All-nil IsName
names_there headers (name ∷ list) e named =
    let p = neither (is_missing headers name) (list_any (is_missing headers) list) e in
    All-cons IsName name list (name_there headers name (place_of headers name) refl p.0 named) (names_there headers list p.1 named)

function_told : (f : SetFunction) (name : List ℕ) → IsName name → IsHeading (function_heading f name)
function_told Count name is = is
function_told Sum name is = is
function_told Min name is = is
function_told Max name is = is
function_told Median name is = is

headings_told : (list : List SelectItem) → All IsName (columns_in list) → All IsHeading (map heading_of list)
headings_told [] all = All-nil IsHeading
headings_told (item.Column name ∷ list) all =
    All-cons IsHeading (heading_of (item.Column name)) (map heading_of list) (All-head IsName name (columns_in list) all) (headings_told list (All-tail IsName name (columns_in list) all))
headings_told (item.CountRows ∷ list) all = All-cons IsHeading (heading_of item.CountRows) (map heading_of list) tt (headings_told list all)
headings_told (item.Function f name ∷ list) all =
    All-cons IsHeading (heading_of (item.Function f name)) (map heading_of list) (function_told f name (All-head IsName name (columns_in list) all)) (headings_told list (All-tail IsName name (columns_in list) all))

few_fits : (n : ℕ) → n ≤ row_limit → FitsSigned w128 (pos n)
few_fits n few = omega (arith, few)

-- what items say of rows
module _ (headers : List Header) (rows : List Row) (few : length rows ≤ row_limit) (are : All (IsRow headers) rows) where
  values_fit : (place : Option ℕ) (xs : List Row) → All (IsRow headers) xs → All IsNullOrStored (map (λ row. value_from row place) xs)
  values_fit place [] all = All-nil IsNullOrStored
  values_fit place (x ∷ xs) all =
      let row = All-head (IsRow headers) x xs all in
      All-cons IsNullOrStored (value_from x place) (map (λ r. value_from r place) xs) (place_fits headers x place row) (values_fit place xs (All-tail (IsRow headers) x xs all))

  said_fits : (one : SelectItem) → IsCell (said_of headers rows one)
  said_fits (item.Column name) = tt
  said_fits item.CountRows = few_fits (length rows) few
  said_fits (item.Function f name) =
      let values = map (λ row. value_from row (place_of headers name)) rows in
      folded_fits f values (omega (arith, few, length-map rows (λ row. value_from row (place_of headers name)))) (values_fit (place_of headers name) rows are)

  lines_told_by : (b : Bool) (list : List SelectItem) → All (All IsCell) (if b then map (said_of headers rows) list ∷ [] else map (line_of headers (columns_in list)) rows)
  lines_told_by true list =
      All-cons (All IsCell) (map (said_of headers rows) list) [] (All-map IsCell (said_of headers rows) list (everywhere (λ one. IsCell (said_of headers rows one)) list said_fits)) (All-nil (All IsCell))
  lines_told_by false list = lines_fit headers (columns_in list) rows are

-- a line for each group
module _ (headers : List Header) (rows : List Row) (few : length rows ≤ row_limit) (are : All (IsRow headers) rows) where
  group_fits : (place : Option ℕ) (list : List SelectItem) (value : Value) → IsNullOrStored value → All IsCell (map (said_in headers (record { value = value; rows = rows_having place value rows })) list)
  group_fits place list value fits =
      let test : Row → Bool = λ row. is_same (value_from row place) value in
      let fewer = length-filter_both test (λ row. not (test row)) (λ row. refl) rows in
      All-map IsCell (said_in headers (record { value = value; rows = rows_having place value rows })) list
      (everywhere (λ one. IsCell (said_in headers (record { value = value; rows = rows_having place value rows }) one)) list
      (λ one. by one (said_fits headers (rows_having place value rows) (omega (arith, few, fewer)) (All-filter test (IsRow headers) rows are) one)))
    where
      by : (one : SelectItem) → IsCell (said_of headers (rows_having place value rows) one) → IsCell (said_in headers (record { value = value; rows = rows_having place value rows }) one)
      by (item.Column name) said = cell_fits value fits
      by item.CountRows said = said
      by (item.Function f name) said = said

  groups_told : (place : Option ℕ) (list : List SelectItem) (values : List Value) → All IsNullOrStored values
      → All (All IsCell) (map (λ group. map (said_in headers group) list) (map (λ value. record { value = value; rows = rows_having place value rows }) values))
  groups_told place list [] all = All-nil (All IsCell)
  groups_told place list (value ∷ values) all =
      All-cons (All IsCell) _ _ (group_fits place list value (All-head IsNullOrStored value values all)) (groups_told place list values (All-tail IsNullOrStored value values all))

  answer_told : (list : List SelectItem) (grouping : Option (List ℕ)) → All (All IsCell) (lines_for headers list grouping rows)
  answer_told list None = lines_told_by headers rows few are (has_functions list) list
  answer_told list (Some name) =
      let place = place_of headers name in
      groups_told place list (group_values (map (λ row. value_from row place) rows)) (all_grouped (map (λ row. value_from row place) rows) (values_fit headers rows few are place rows are))

-- each statement

selects : (there : Option Table) (query : SelectTree) → ((table : Table) → there ≡ Some table → IsTable table × HaveNames table.headers)
    → first_that_holds (over there (λ table. select_tests query table.headers)) ≡ None → IsReply (Rows (answer (table_or_none there) query))
selects None query is none = cc
selects (Some table) query is none =
    let list = shown_items table.headers query.items in
    let p = none_holds (select_tests query table.headers) none in
    let t = is table refl in
    let rows = found_rows table query.condition in (
      headings_told list (names_there table.headers (columns_in list) p.0 t.1),
      answer_told table.headers rows (omega (arith, few_found table query.condition, t.0.few)) (All-filter (is_found table.headers query.condition) (IsRow table.headers) table.rows t.0.rows) list query.grouping,
    )

counts : (there : Option Table) (listed : Option (List (List ℕ))) (rows : List Row) → first_that_holds (over there (λ table. insert_tests (target_columns table.headers listed) rows table)) ≡ None → length rows < 2 ^ 64
counts None listed rows none = cc
counts (Some table) listed rows none =
    let p = none_holds (insert_tests (target_columns table.headers listed) rows table) none in
    let few = ltb-false row_limit (length table.rows + length rows) p.1.1.1.1.0 in omega (arith, few)

-- a list of tables
lines_told : (store : Store) → All (λ entry. IsTable entry.1) store → AreNamed store → All (All IsCell) (map table_line store)
lines_told [] are named = All-nil (All IsCell)
lines_told (entry ∷ store) are named =
    let table = All-head (λ e. IsTable e.1) entry store are in
    let name = All-head (λ e. IsName e.0 × HaveNames e.1.headers) entry store named in
    let columns = few_fits (length entry.1.headers) (omega (arith, table.headers.few)) in
    let rows = few_fits (length entry.1.rows) table.few in
    All-cons (All IsCell) (table_line entry) (map table_line store)
    (All-cons IsCell (Name entry.0) (Number (pos (length entry.1.headers)) ∷ Number (pos (length entry.1.rows)) ∷ []) name.0
    (All-cons IsCell (Number (pos (length entry.1.headers))) (Number (pos (length entry.1.rows)) ∷ []) columns
    (All-cons IsCell (Number (pos (length entry.1.rows))) [] rows (All-nil IsCell))))
    (lines_told store (All-tail (λ e. IsTable e.1) entry store are) (All-tail (λ e. IsName e.0 × HaveNames e.1.headers) entry store named))

lists : (store : Store) → All (λ entry. IsTable entry.1) store → AreNamed store → IsReply (Rows (listing store))
lists store are named = (
  All-cons IsHeading Table' (Columns ∷ Rows' ∷ []) tt (All-cons IsHeading Columns (Rows' ∷ []) tt (All-cons IsHeading Rows' [] tt (All-nil IsHeading))),
  lines_told store are named,
)

-- how many rows are found
found_fits : (there : Option Table) (condition : Option ConditionTree) → ((table : Table) → there ≡ Some table → IsTable table) → length (found_rows (table_or_none there) condition) < 2 ^ 64
found_fits None condition is = omega arith
found_fits (Some table) condition is = let t = is table refl in omega (arith, few_found table condition, t.few)

-- how many rows are read or written

lines_counted : (there : Option Table) (said : Content) → first_that_holds (over there (load_tests said)) ≡ None → length (lines_in said) < 2 ^ 64
lines_counted None said none = cc
lines_counted (Some table) said none =
    let p = none_holds (load_tests said table) none in
    let few = ltb-false row_limit (length table.rows + length (lines_in said)) p.1.1.1.0 in omega (arith, few)

rows_counted : (there : Option Table) → ((table : Table) → there ≡ Some table → IsTable table) → length (table_or_none there).rows < 2 ^ 64
rows_counted None is = omega arith
rows_counted (Some table) is = let t = is table refl in omega (arith, t.few)

held_counted : (store : Store) (name file : List ℕ) (said : Content) → MayBeSaid store (open_table name file) said → first_that_holds (open_tests name store said) ≡ None → length (table_held said).rows < 2 ^ 64
held_counted store name file said may none =
    let p = none_holds (open_tests name store said) none in
    let held = said_to_open store name file said may p.1.1.1.1.0 in omega (arith, held.is.few)

carries_out : (store : Store) (said : Content) (statement : StatementTree) → IsStore store → AreNamed store → MayBeSaid store statement said → first_that_holds (tests_of store said statement) ≡ None → IsReply (carried_out store said statement).0
carries_out store said (create_table name definitions) are named may none = tt
carries_out store said (drop_table name) are named may none = tt
carries_out store said list_tables are named may none = lists store are.tables named
carries_out store said (insert name listed rows) are named may none = counts (table_of store name) listed rows none
carries_out store said (update name sets condition) are named may none = found_fits (table_of store name) condition (λ table there. table_in store name table there are.tables)
carries_out store said (delete name condition) are named may none = found_fits (table_of store name) condition (λ table there. table_in store name table there are.tables)
carries_out store said (rebuild name choices) are named may none = tt
carries_out store said (select query) are named may none =
    selects (table_of store query.table) query (λ table there. (table_in store query.table table there are.tables, named_in store query.table table there named)) none
carries_out store said (stats query) are named may none = units_said store query said may
carries_out store said (load name file first) are named may none = lines_counted (table_of store name) said none
carries_out store said (save name file) are named may none = rows_counted (table_of store name) (λ table there. table_in store name table there are.tables)
carries_out store said (open_table name file) are named may none = held_counted store name file said may none

answers : (first : Option Refusal) (store : Store) (said : Content) (statement : StatementTree) → IsStore store → AreNamed store → MayBeSaid store statement said → first_that_holds (tests_of store said statement) ≡ first → IsReply (refused_or first store (carried_out store said statement)).0
answers None store said statement are named may none = carries_out store said statement are named may none
answers (Some refusal) store said statement are named may some = plain_first (tests_of store said statement) refusal (plain_tests store said statement are may) some

pub replied : (store after : Store) (said : Content) (statement : StatementTree) (reply : Reply) → IsStore store → AreNamed store → MayBeSaid store statement said → Step store said statement reply after → IsReply reply
replied store after said statement reply are named may step =
    elim step [
      | inl free ↦ subst IsReply (sym free.says) tt
      | inr e ↦ subst IsReply (sym (ap (λ p. p.0) e)) (answers (first_that_holds (tests_of store said statement)) store said statement are named may refl)
    ]
