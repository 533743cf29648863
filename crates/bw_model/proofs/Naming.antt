-- A step keeps the names of a store names.
use Rattle.std.proofs.Common.{◌≡◌, inl, inr, ℕ, Bool, true, false, List, [], ◌∷◌, map, Option, None, Some, if◌then◌else◌, refl, sym, ap, subst}
use Rattle.std.specs.List.{All}
use Rattle.std.specs.Str.{bytes_eq}
use Rattle.std.proofs.lemmas.List.Elements.{All-cons, All-head, All-nil, All-push, All-tail}
use Rattle.bw_sql.specs.Names.{IsName}
use Rattle.bw_sql.specs.Tree.{StatementTree, create_table, delete, drop_table, insert, list_tables, load, open_table, rebuild, save, select, stats, update}
use Rattle.bw_sql.specs.declared.tree.LayoutChoice.{LayoutChoice}
use Rattle.bw_sql.specs.declared.tree.ColumnDefinition.{ColumnDefinition}
use Rattle.bw_model.specs.Changes.{chosen_header, with_choices, with_updates, without_found}
use Rattle.bw_model.specs.Contents.{MayBeSaid, lines_in, table_held}
use Rattle.bw_model.specs.Insert.{with_rows}
use Rattle.bw_sql.specs.Brought.{names_brought}
use Rattle.bw_model.specs.Named.{AreNamed, HaveNames}
use Rattle.bw_model.specs.Refusals.{first_that_holds, open_tests, tests_of}
use Rattle.bw_model.specs.Step.{Step, carried_out, refused_or, with_lines, with_table}
use Rattle.bw_model.specs.Store.{Header, Store, Table, header_of, names, table_of}
use Rattle.bw_model.specs.Words.{kind_or, layout_of}
use Rattle.bw_model.specs.declared.content.Content.{Content}
use Rattle.bw_model.specs.declared.refusal.Refusal.{Refusal}
use Rattle.bw_model.specs.declared.reply.Reply.{Reply}
use Rattle.bw_model.proofs.Dropped.{All-without}
use Rattle.bw_model.proofs.Passing.{none_holds}
use Rattle.bw_model.proofs.Said.{said_to_open}

abbrev IsNamed : List ℕ × Table → Type 0
IsNamed entry = IsName entry.0 × HaveNames entry.1.headers

pub named_in : (store : Store) (name : List ℕ) (table : Table) → table_of store name ≡ Some table → AreNamed store → HaveNames table.headers
named_in [] name table there named = cc
named_in (entry ∷ store) name table there named = by (bytes_eq name entry.0) there (λ deeper. named_in store name table deeper (All-tail IsNamed entry store named))
  where
    by : (b : Bool) → (if b then Some entry.1 else table_of store name) ≡ Some table → (table_of store name ≡ Some table → HaveNames table.headers) → HaveNames table.headers
    by true here deeper = let same : entry.1 ≡ table = cc in subst (λ t. HaveNames t.headers) same (All-head IsNamed entry store named).1
    by false here deeper = deeper here

named_columns : (columns : List ColumnDefinition) → All IsName (map (λ c. c.name) columns) → HaveNames (map header_of columns)
named_columns [] all = All-nil (λ header. IsName header.name)
named_columns (column ∷ columns) all =
    All-cons (λ header. IsName header.name) (header_of column) (map header_of columns) (All-head IsName column.name (map (λ c. c.name) columns) all)
    (named_columns columns (All-tail IsName column.name (map (λ c. c.name) columns) all))

-- a change of a table that keeps its columns' names
abbrev KeepsNames : (Table → Table) → Type 0
KeepsNames change = (table : Table) → HaveNames table.headers → HaveNames (change table).headers

module _ (change : Table → Table) (keeps : KeepsNames change) where
  -- the table of an entry is changed, or one after it
  put_in : (b : Bool) (entry : List ℕ × Table) (store changed : Store) → IsNamed entry → AreNamed store → AreNamed changed
      → AreNamed (if b then (entry.0, change entry.1) ∷ store else entry ∷ changed)
  put_in true entry store changed this others deeper = All-cons IsNamed (entry.0, change entry.1) store (this.0, keeps entry.1 this.1) others
  put_in false entry store changed this others deeper = All-cons IsNamed entry changed this deeper

  with_named : (store : Store) (name : List ℕ) → AreNamed store → AreNamed (with_table store name change)
  with_named [] name named = named
  with_named (entry ∷ store) name named =
      let others = All-tail IsNamed entry store named in
      put_in (bytes_eq name entry.0) entry store (with_table store name change) (All-head IsNamed entry store named) others (with_named store name others)

-- a choice keeps the column's name
chosen_name : (choices : List LayoutChoice) (header : Header) → (chosen_header choices header).name ≡ header.name
chosen_name [] header = refl
chosen_name (choice ∷ choices) header = by (bytes_eq header.name choice.column) (chosen_name choices header)
  where
    by : (b : Bool) → (chosen_header choices header).name ≡ header.name
        → (if b then record { name = header.name; column_type = header.column_type; layout = layout_of choice.layout; kind = kind_or choice.kind header.kind } else chosen_header choices header).name ≡ header.name
    by true deeper = refl
    by false deeper = deeper

pub chosen_names : (choices : List LayoutChoice) (headers : List Header) → names (map (chosen_header choices) headers) ≡ names headers
chosen_names choices [] = refl
chosen_names choices (header ∷ headers) = (λ j. chosen_name choices header j ∷ chosen_names choices headers j)

chosen_named : (choices : List LayoutChoice) (headers : List Header) → HaveNames headers → HaveNames (map (chosen_header choices) headers)
chosen_named choices [] named = All-nil (λ header. IsName header.name)
chosen_named choices (header ∷ headers) named =
    All-cons (λ h. IsName h.name) (chosen_header choices header) (map (chosen_header choices) headers)
    (subst IsName (sym (chosen_name choices header)) (All-head (λ h. IsName h.name) header headers named))
    (chosen_named choices headers (All-tail (λ h. IsName h.name) header headers named))

carried : (store : Store) (said : Content) (statement : StatementTree) → AreNamed store → All IsName (names_brought statement) → MayBeSaid store statement said → first_that_holds (tests_of store said statement) ≡ None → AreNamed (carried_out store said statement).1
carried store said (create_table name columns) named brought may none =
    All-push IsNamed store (name, record { headers = map header_of columns; rows = [] }) named
    (All-head IsName name (map (λ c. c.name) columns) brought, named_columns columns (All-tail IsName name (map (λ c. c.name) columns) brought))
carried store said (drop_table name) named brought may none = All-without IsNamed name store named
carried store said list_tables named brought may none = named
carried store said (insert name listed rows) named brought may none = with_named (with_rows listed rows) (λ table kept. kept) store name named
carried store said (update name sets condition) named brought may none = with_named (with_updates sets condition) (λ table kept. kept) store name named
carried store said (delete name condition) named brought may none = with_named (without_found condition) (λ table kept. kept) store name named
carried store said (rebuild name choices) named brought may none = with_named (with_choices choices) (λ table kept. chosen_named choices table.headers kept) store name named
carried store said (select query) named brought may none = named
carried store said (stats query) named brought may none = named
carried store said (load name file first) named brought may none = with_named (with_lines (lines_in said)) (λ table kept. kept) store name named
carried store said (save name file) named brought may none = named
carried store said (open_table name file) named brought may none =
    let p = none_holds (open_tests name store said) none in
    let is = said_to_open store name file said may p.1.1.1.1.0 in
    All-push IsNamed store (name, table_held said) named (All-head IsName name [] brought, is.named)

after_first : (first : Option Refusal) (store : Store) (said : Content) (statement : StatementTree) → AreNamed store → All IsName (names_brought statement) → MayBeSaid store statement said → first_that_holds (tests_of store said statement) ≡ first → AreNamed (refused_or first store (carried_out store said statement)).1
after_first None store said statement named brought may none = carried store said statement named brought may none
after_first (Some refusal) store said statement named brought may some = named

pub names_kept : (store after : Store) (said : Content) (statement : StatementTree) (reply : Reply) → AreNamed store → All IsName (names_brought statement) → MayBeSaid store statement said → Step store said statement reply after → AreNamed after
names_kept store after said statement reply named brought may step =
    elim step [
      | inl free ↦ subst AreNamed (sym free.stays) named
      | inr e ↦ subst AreNamed (sym (ap (λ p. p.1) e)) (after_first (first_that_holds (tests_of store said statement)) store said statement named brought may refl)
    ]

pub no_names : AreNamed []
no_names = All-nil IsNamed
