-- A step keeps a store well formed.
use Rattle.std.proofs.Common.{◌≡◌, inl, inr, ℕ, ◌+◌, ◌<◌, ◌^◌, Bool, true, false, ◌&&◌, ◌||◌, not, is_some, IsTrue, List, [], ◌∷◌, ◌++◌, get_or, length, map, position, Option, None, Some, if◌then◌else◌, refl, sym, ap, subst, ◌∙◌, arith, length-append}
use Rattle.std.specs.List.{All, list_all, list_any}
use Rattle.std.specs.Str.{bytes_eq}
use Rattle.std.proofs.lemmas.Bool.{leb-false, ltb-false, not-false, true≢false}
use Rattle.std.proofs.lemmas.List.{length-map}
use Rattle.std.proofs.lemmas.List.Elements.{All-append, All-cons, All-head, All-nil, All-push, All-tail}
use Rattle.bw_sql.specs.Tree.{StatementTree, ConditionTree, create_table, delete, drop_table, insert, list_tables, load, open_table, rebuild, save, select, stats, update}
use Rattle.bw_sql.specs.declared.tree.LayoutChoice.{LayoutChoice}
use Rattle.bw_sql.specs.declared.tree.FirstRecord.{FirstRecord}
use Rattle.bw_sql.specs.declared.tree.SetClause.{SetClause}
use Rattle.bw_model.specs.Changes.{with_choices, with_updates, without_found}
use Rattle.bw_model.specs.Contents.{MayBeSaid, lines_in, table_held, types_in}
use Rattle.bw_model.specs.Insert.{row_for, target_columns, with_rows}
use Rattle.bw_model.specs.Refusals.{delete_tests, first_that_holds, insert_tests, load_tests, open_tests, over, rebuild_tests, tests_of, types_named, update_tests}
use Rattle.bw_model.specs.Step.{Step, carried_out, refused_or, with_lines, with_table, without_table}
use Rattle.bw_model.specs.Store.{Header, Row, Store, Table, are_distinct, header_of, names, row_limit, table_limit, table_of, value_from}
use Rattle.bw_model.specs.WellFormed.{IsRow, IsStore, IsTable}
use Rattle.bw_model.specs.declared.content.Content.{Content}
use Rattle.bw_model.specs.declared.refusal.Refusal.{Refusal}
use Rattle.bw_model.specs.declared.reply.Reply.{Reply}
use Rattle.bw_code.specs.Types.{IsNullOrOfType, are_of_types, types_of}
use Rattle.bw_model.proofs.Changed.{chosen_table, table_left, updated_table}
use Rattle.bw_model.proofs.Typed.{listed_typed, own_type, row_made}
use Rattle.bw_model.proofs.Dropped.{All-without, distinct_without, few_without}
use Rattle.bw_model.proofs.Names.{are_distinct-push, bytes_eq-comm, headers_from, map-push}
use Rattle.bw_model.proofs.Passing.{Passes, none_holds, passes, two}
use Rattle.bw_model.proofs.Said.{FitsTable, lines_are, said_to_load, said_to_open}

-- rows that are put into a table

module _ (headers : List Header) (distinct : IsTrue (are_distinct (names headers))) (list : List (List ℕ)) where
  new_row : (values : Row) → are_of_types (types_named headers list) values ≡ true → IsRow headers (row_for headers list values)
  new_row values fit =
      row_made headers (λ header. value_from values (position (bytes_eq header.name) list))
      (λ k d low. subst (λ t. IsNullOrOfType t (value_from values (position (bytes_eq (get_or headers k d).name) list))) (own_type headers k d distinct low)
      (listed_typed headers list values (get_or headers k d).name (position (bytes_eq (get_or headers k d).name) list) fit refl))

  pub new_rows : (rows : List Row) → list_all (are_of_types (types_named headers list)) rows ≡ true → All (IsRow headers) (map (row_for headers list) rows)
  new_rows [] all = All-nil (IsRow headers)
  new_rows (row ∷ rows) all =
      let p = two (are_of_types (types_named headers list) row) (list_all (are_of_types (types_named headers list)) rows) all in
      All-cons (IsRow headers) (row_for headers list row) (map (row_for headers list) rows) (new_row row p.0) (new_rows rows p.1)

grown : (table : Table) (listed : Option (List (List ℕ))) (rows : List Row) → IsTable table → first_that_holds (insert_tests (target_columns table.headers listed) rows table) ≡ None → IsTable (with_rows listed rows table)
grown table listed rows is none =
    let list = target_columns table.headers listed in
    let p = (none_holds (insert_tests list rows table) none).1.1.1 in
    record {
      headers = is.headers;
      rows = All-append (IsRow table.headers) table.rows (map (row_for table.headers list) rows) is.rows (new_rows table.headers is.headers.distinct list rows (not-false (list_all (are_of_types (types_named table.headers list)) rows) p.0));
      few = omega (arith, length-append table.rows (map (row_for table.headers list) rows), length-map rows (row_for table.headers list), ltb-false row_limit (length table.rows + length rows) p.1.0);
    }

-- the store with a table changed

abbrev table_names : Store → List (List ℕ)
table_names store = map (λ entry. entry.0) store

named_so : (b : Bool) (entry : List ℕ × Table) (store changed : Store) (table : Table) → table_names changed ≡ table_names store → table_names (if b then (entry.0, table) ∷ store else entry ∷ changed) ≡ entry.0 ∷ table_names store
named_so true entry store changed table same = refl
named_so false entry store changed table same = ap (λ l. entry.0 ∷ l) same

same_names : (store : Store) (name : List ℕ) (change : Table → Table) → table_names (with_table store name change) ≡ table_names store
same_names [] name change = refl
same_names (entry ∷ store) name change = named_so (bytes_eq name entry.0) entry store (with_table store name change) (change entry.1) (same_names store name change)

-- each table is one
abbrev AreTables : Store → Type 0
AreTables store = All (λ entry. IsTable entry.1) store

put_in : (b : Bool) (entry : List ℕ × Table) (store changed : Store) (name : List ℕ) (change : Table → Table) (table : Table)
    → (if b then Some entry.1 else table_of store name) ≡ Some table → IsTable (change table) → IsTable entry.1 → AreTables store → (table_of store name ≡ Some table → AreTables changed)
    → AreTables (if b then (entry.0, change entry.1) ∷ store else entry ∷ changed)
put_in true entry store changed name change table there is this others deeper =
    let same : table ≡ entry.1 = cc in
    All-cons (λ e. IsTable e.1) (entry.0, change entry.1) store (subst (λ t. IsTable (change t)) same is) others
put_in false entry store changed name change table there is this others deeper = All-cons (λ e. IsTable e.1) entry changed this (deeper there)

tables_with : (store : Store) (name : List ℕ) (change : Table → Table) (table : Table) → table_of store name ≡ Some table → IsTable (change table) → AreTables store → AreTables (with_table store name change)
tables_with [] name change table there is are = are
tables_with (entry ∷ store) name change table there is are =
    let others = All-tail (λ e. IsTable e.1) entry store are in
    put_in (bytes_eq name entry.0) entry store (with_table store name change) name change table there is (All-head (λ e. IsTable e.1) entry store are) others
    (λ deeper. tables_with store name change table deeper is others)

pub table_in : (store : Store) (name : List ℕ) (table : Table) → table_of store name ≡ Some table → AreTables store → IsTable table
table_in [] name table there are = cc
table_in (entry ∷ store) name table there are = by (bytes_eq name entry.0) there (λ deeper. table_in store name table deeper (All-tail (λ e. IsTable e.1) entry store are))
  where
    by : (b : Bool) → (if b then Some entry.1 else table_of store name) ≡ Some table → (table_of store name ≡ Some table → IsTable table) → IsTable table
    by true here deeper = let same : entry.1 ≡ table = cc in subst IsTable same (All-head (λ e. IsTable e.1) entry store are)
    by false here deeper = deeper here

changed : (store : Store) (name : List ℕ) (change : Table → Table) (table : Table) → table_of store name ≡ Some table → IsTable (change table) → IsStore store → IsStore (with_table store name change)
changed store name change table there is are = record {
  distinct = subst (λ l. are_distinct l ≡ true) (sym (same_names store name change)) are.distinct;
  few = omega (arith, are.few, ap length (same_names store name change), length-map (with_table store name change) (λ entry. entry.0), length-map store (λ entry. entry.0));
  tables = tables_with store name change table there is are.tables;
}

-- a table appended

not_here : (b c : Bool) (o : Option Table) (table : Table) → c ≡ b → is_some (if b then Some table else o) ≡ false → (c ≡ false) × (is_some o ≡ false)
not_here true c o table same e = absurd (true≢false e)
not_here false c o table same e = (same, e)

neither_of : (c d : Bool) → c ≡ false → d ≡ false → (c || d) ≡ false
neither_of true d e f = absurd (true≢false e)
neither_of false d e f = f

unseen : (store : Store) (name : List ℕ) → is_some (table_of store name) ≡ false → list_any (λ other. bytes_eq other name) (table_names store) ≡ false
unseen [] name e = refl
unseen (entry ∷ store) name e =
    let p = not_here (bytes_eq name entry.0) (bytes_eq entry.0 name) (table_of store name) entry.1 (bytes_eq-comm entry.0 name) e in
    neither_of (bytes_eq entry.0 name) (list_any (λ other. bytes_eq other name) (table_names store)) p.0 (unseen store name p.1)

both_so : (b c : Bool) → b ≡ true → c ≡ false → (b && not c) ≡ true
both_so true true e f = absurd (true≢false f)
both_so true false e f = refl
both_so false c e f = e

pushed : (store : Store) (name : List ℕ) (table : Table) → IsStore store → is_some (table_of store name) ≡ false → length store < table_limit → IsTable table → IsStore (store ++ (name, table) ∷ [])
pushed store name table are absent room is = record {
  distinct =
      subst (λ l. are_distinct l ≡ true) (sym (map-push (λ entry. entry.0) store (name, table)))
      (are_distinct-push (table_names store) name ∙ both_so (are_distinct (table_names store)) (list_any (λ other. bytes_eq other name) (table_names store)) are.distinct (unseen store name absent));
  few = omega (arith, length-append store ((name, table) ∷ []), room);
  tables = All-push (λ entry. IsTable entry.1) store (name, table) are.tables is;
}

made : (columns : List Header) (name : List ℕ) (store : Store) → IsStore store → Passes columns name store → IsStore (store ++ (name, record { headers = columns; rows = [] }) ∷ [])
made columns name store are pass =
    pushed store name (record { headers = columns; rows = [] }) are pass.absent pass.room (record {
      headers = headers_from columns pass.some pass.few pass.distinct pass.wide;
      rows = All-nil (IsRow columns);
      few = omega arith;
    })

-- a table taken out

taken_out : (store : Store) (name : List ℕ) → IsStore store → IsStore (without_table store name)
taken_out store name are = record {
  distinct = distinct_without name store are.distinct;
  few = omega (arith, are.few, few_without name store);
  tables = All-without (λ entry. IsTable entry.1) name store are.tables;
}

-- each statement

inserts : (o : Option Table) (store : Store) (name : List ℕ) (listed : Option (List (List ℕ))) (rows : List Row) → IsStore store → table_of store name ≡ o → first_that_holds (over o (λ table. insert_tests (target_columns table.headers listed) rows table)) ≡ None → IsStore (with_table store name (with_rows listed rows))
inserts None store name listed rows are there none = cc
inserts (Some table) store name listed rows are there none =
    changed store name (with_rows listed rows) table there (grown table listed rows (table_in store name table there are.tables) none) are

updates : (o : Option Table) (store : Store) (name : List ℕ) (sets : List SetClause) (condition : Option ConditionTree) → IsStore store → table_of store name ≡ o → first_that_holds (over o (update_tests sets condition)) ≡ None → IsStore (with_table store name (with_updates sets condition))
updates None store name sets condition are there none = cc
updates (Some table) store name sets condition are there none =
    changed store name (with_updates sets condition) table there (updated_table table sets condition (table_in store name table there are.tables) none) are

deletes : (o : Option Table) (store : Store) (name : List ℕ) (condition : Option ConditionTree) → IsStore store → table_of store name ≡ o → first_that_holds (over o (λ table. delete_tests condition table)) ≡ None → IsStore (with_table store name (without_found condition))
deletes None store name condition are there none = cc
deletes (Some table) store name condition are there none =
    changed store name (without_found condition) table there (table_left table condition (table_in store name table there are.tables)) are

rebuilds : (o : Option Table) (store : Store) (name : List ℕ) (choices : List LayoutChoice) → IsStore store → table_of store name ≡ o → first_that_holds (over o (rebuild_tests choices)) ≡ None → IsStore (with_table store name (with_choices choices))
rebuilds None store name choices are there none = cc
rebuilds (Some table) store name choices are there none =
    changed store name (with_choices choices) table there (chosen_table table choices (table_in store name table there are.tables) none) are

-- how many columns a table has, where there is one
types_few : (o : Option Table) → ((table : Table) → o ≡ Some table → IsTable table) → length (types_in o) < 2 ^ 64
types_few None is = omega arith
types_few (Some table) is = let t = is table refl in omega (arith, t.headers.few, length-map table.headers (λ header. header.column_type))

-- what is said to a LOAD fits its table
pub fits_loaded : (store : Store) (name file : List ℕ) (first : FirstRecord) (said : Content) → IsStore store → MayBeSaid store (load name file first) said → FitsTable (types_in (table_of store name)) said
fits_loaded store name file first said are may = said_to_load store name file first said (types_few (table_of store name) (λ table there. table_in store name table there are.tables)) may

lengthened : (table : Table) (said : Content) → IsTable table → FitsTable (types_of table.headers) said → first_that_holds (load_tests said table) ≡ None → IsTable (with_lines (lines_in said) table)
lengthened table said is fits none =
    let p = none_holds (load_tests said table) none in
    record {
      headers = is.headers;
      rows = All-append (IsRow table.headers) table.rows (lines_in said) is.rows (lines_are table.headers said fits);
      few = omega (arith, length-append table.rows (lines_in said), ltb-false row_limit (length table.rows + length (lines_in said)) p.1.1.1.0);
    }

loads : (o : Option Table) (store : Store) (name : List ℕ) (said : Content) → IsStore store → FitsTable (types_in o) said → table_of store name ≡ o → first_that_holds (over o (load_tests said)) ≡ None → IsStore (with_table store name (with_lines (lines_in said)))
loads None store name said are fits there none = cc
loads (Some table) store name said are fits there none =
    changed store name (with_lines (lines_in said)) table there (lengthened table said (table_in store name table there are.tables) fits none) are

opens : (store : Store) (name file : List ℕ) (said : Content) → IsStore store → MayBeSaid store (open_table name file) said → first_that_holds (open_tests name store said) ≡ None → IsStore (store ++ (name, table_held said) ∷ [])
opens store name file said are may none =
    let p = none_holds (open_tests name store said) none in
    pushed store name (table_held said) are p.0 (leb-false table_limit (length store) p.1.0) (said_to_open store name file said may p.1.1.1.1.0).is

carried : (store : Store) (said : Content) (statement : StatementTree) → IsStore store → MayBeSaid store statement said → first_that_holds (tests_of store said statement) ≡ None → IsStore (carried_out store said statement).1
carried store said (create_table name columns) are may none = made (map header_of columns) name store are (passes (map header_of columns) name store none)
carried store said (drop_table name) are may none = taken_out store name are
carried store said list_tables are may none = are
carried store said (insert name listed rows) are may none = inserts (table_of store name) store name listed rows are refl none
carried store said (update name sets condition) are may none = updates (table_of store name) store name sets condition are refl none
carried store said (delete name condition) are may none = deletes (table_of store name) store name condition are refl none
carried store said (rebuild name choices) are may none = rebuilds (table_of store name) store name choices are refl none
carried store said (select query) are may none = are
carried store said (stats query) are may none = are
carried store said (load name file first) are may none = loads (table_of store name) store name said are (fits_loaded store name file first said are may) refl none
carried store said (save name file) are may none = are
carried store said (open_table name file) are may none = opens store name file said are may none

after_first : (first : Option Refusal) (store : Store) (said : Content) (statement : StatementTree) → IsStore store → MayBeSaid store statement said → first_that_holds (tests_of store said statement) ≡ first → IsStore (refused_or first store (carried_out store said statement)).1
after_first None store said statement are may none = carried store said statement are may none
after_first (Some refusal) store said statement are may some = are

pub kept : (store after : Store) (said : Content) (statement : StatementTree) (reply : Reply) → IsStore store → MayBeSaid store statement said → Step store said statement reply after → IsStore after
kept store after said statement reply are may step =
    elim step [
      | inl free ↦ subst IsStore (sym free.stays) are
      | inr e ↦ subst IsStore (sym (ap (λ p. p.1) e)) (after_first (first_that_holds (tests_of store said statement)) store said statement are may refl)
    ]

pub empty : IsStore []
empty = record { distinct = refl; few = omega arith; tables = All-nil (λ entry. IsTable entry.1) }
