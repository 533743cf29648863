-- A store's tables by their names and places, and what a statement leaves.
use Rattle.std.proofs.Common.{◌≡◌, ℕ, ◌+◌, ◌<◌, ◌≤◌, Bool, true, false, not, ltb, List, [], ◌∷◌, ◌++◌, get_or, length, map, position, set, Option, None, Some, Result, Ok, Err, IfOk, MatchOption, if◌then◌else◌, zero, suc, refl, sym, ap, ◌∙◌, arith}
use Rattle.std.specs.List.{position_or_len}
use Rattle.std.specs.Str.{bytes_eq}
use Rattle.std.proofs.lemmas.Bool.{ltb-false, true≢false}
use Rattle.std.proofs.lemmas.List.{set-get_or}
use Rattle.std.proofs.lemmas.List.Quantifiers.{position-Some}
use Rattle.bw_sql.specs.Tree.{ConditionTree, SelectTree, StatementTree, create_table, delete, insert, load, open_table, rebuild, select, update}
use Rattle.bw_sql.specs.declared.tree.LayoutChoice.{LayoutChoice}
use Rattle.bw_sql.specs.declared.tree.FirstRecord.{FirstRecord}
use Rattle.bw_sql.specs.declared.tree.SetClause.{SetClause}
use Rattle.bw_sql.specs.declared.tree.ColumnDefinition.{ColumnDefinition}
use Rattle.bw_model.specs.Changes.{with_choices, with_updates, without_found}
use Rattle.bw_model.specs.Condition.{found_rows}
use Rattle.bw_model.specs.Contents.{lines_in, table_held}
use Rattle.bw_model.specs.Insert.{target_columns, with_rows}
use Rattle.bw_model.specs.Refusals.{Tests, create_tests, delete_tests, first_that_holds, insert_tests, load_tests, open_tests, over, query_tests, rebuild_tests, select_tests, tests_of, update_tests}
use Rattle.bw_model.specs.Answers.{Shown}
use Rattle.bw_model.specs.Select.{answer}
use Rattle.bw_model.specs.Step.{carried_out, outcome_of, refused_or, table_or_none, with_lines, with_table}
use Rattle.bw_model.specs.Store.{Header, Row, Store, Table, header_of, table_of}
use Rattle.bw_model.specs.declared.content.Content.{Content}
use Rattle.bw_model.specs.declared.content.Content.TheVariants.{Nothing}
use Rattle.bw_model.specs.declared.refusal.Refusal.{Refusal}
use Rattle.bw_model.specs.declared.refusal.Refusal.TheVariants.{NoSuchTable}
use Rattle.bw_model.specs.declared.reply.Reply.{Reply}
use Rattle.bw_model.specs.declared.reply.Reply.TheVariants.{Count, Done, Refused, Rows}

-- the tests of CREATE, from the columns that it makes
pub create_first : (store : Store) (name : List ℕ) (columns : List ColumnDefinition) (headers : List Header) (tests : Tests) (first : Option Refusal)
    → headers ≡ map header_of columns → tests ≡ create_tests headers name store → first ≡ first_that_holds tests → first_that_holds (tests_of store Nothing (create_table name columns)) ≡ first
create_first store name columns headers tests first made tested is =
    sym (is ∙ ap first_that_holds (tested ∙ ap (λ l. create_tests l name store) made))

-- where the first test that holds is this one, or none does
pub outcome_is : (store : Store) (said : Content) (statement : StatementTree) (first : Option Refusal) → first_that_holds (tests_of store said statement) ≡ first → outcome_of store said statement ≡ refused_or first store (carried_out store said statement)
outcome_is store said statement first e = ap (λ o. refused_or o store (carried_out store said statement)) e

-- a table appended
pub created : (store after : Store) (name given : List ℕ) (columns : List ColumnDefinition) (headers : List Header) (table : Table)
    → first_that_holds (tests_of store Nothing (create_table name columns)) ≡ None → given ≡ name → headers ≡ map header_of columns → table ≡ record { headers = headers; rows = [] } → after ≡ store ++ (given, table) ∷ []
    → ◌≡◌ {A = Reply × Store} (Done, after) (outcome_of store Nothing (create_table name columns))
created store after name given columns headers table none named made is put =
    ap (λ s. (Done, s)) (put ∙ ap (λ n. store ++ (n, table) ∷ []) named ∙ ap (λ t. store ++ (name, t) ∷ []) (is ∙ ap (λ h. record { headers = h; rows = [] }) made))
    ∙ sym (outcome_is store Nothing (create_table name columns) None none)

module _ (name : List ℕ) (change : Table → Table) where
  -- a table at the first place of its name is the one of this name
  pub record Found (store : Store) (i : ℕ) (entry : List ℕ × Table) : Type 0 where
    pub there : table_of store name ≡ Some entry.1
    pub changed : set store i (entry.0, change entry.1) ≡ with_table store name change

  here : (b : Bool) (first entry : List ℕ × Table) (store : Store) → b ≡ true → entry ≡ first
      → ((if b then Some first.1 else table_of store name) ≡ Some entry.1) × ((entry.0, change entry.1) ∷ store ≡ (if b then (first.0, change first.1) ∷ store else first ∷ with_table store name change))
  here true first entry store b e = (ap (λ x. Some x.1) (sym e), ap (λ x. (x.0, change x.1) ∷ store) e)
  here false first entry store b e = absurd (true≢false (sym b))

  deeper : (b : Bool) (first entry : List ℕ × Table) (store : Store) (i : ℕ) → b ≡ false → Found store i entry
      → ((if b then Some first.1 else table_of store name) ≡ Some entry.1) × (first ∷ set store i (entry.0, change entry.1) ≡ (if b then (first.0, change first.1) ∷ store else first ∷ with_table store name change))
  deeper true first entry store i b found = absurd (true≢false b)
  deeper false first entry store i b found = (found.there, ap (λ l. first ∷ l) found.changed)

  found_at : (store : Store) (i : ℕ) (entry : List ℕ × Table) → i < length store → entry ≡ get_or store i entry → bytes_eq name (get_or store i entry).0 ≡ true → ((k : ℕ) → k < i → bytes_eq name (get_or store k entry).0 ≡ false) → Found store i entry
  found_at [] i entry within at is others = absurd (omega arith)
  found_at (first ∷ store) zero entry within at is others =
      let p = here (bytes_eq name first.0) first entry store is at in record { there = p.0; changed = p.1 }
  found_at (first ∷ store) (suc i) entry within at is others =
      let p = deeper (bytes_eq name first.0) first entry store i (others 0 (omega arith)) (found_at store i entry (omega arith) at is (λ k below. others (suc k) (omega arith))) in
      record { there = p.0; changed = p.1 }

  pub found : (store : Store) (i : ℕ) (entry : List ℕ × Table) → position (λ e. bytes_eq name e.0) store ≡ Some i → entry ≡ get_or store i entry → Found store i entry
  found store i entry e at = let p = position-Some (λ x. bytes_eq name x.0) store i entry e in found_at store i entry p.0 at p.1 p.2

none_if : (b : Bool) (n : ℕ) → (if b then Some n else None) ≡ None → b ≡ false
none_if true n e = cc
none_if false n e = refl

module _ (name : List ℕ) where
  past : (b : Bool) (n m : ℕ) (o : Option Table) (t : Table) → suc m ≤ (if not b then 1 + n else 0) → (m ≤ n → o ≡ None) → (if b then Some t else o) ≡ None
  past true n m o t all rest = absurd (omega arith)
  past false n m o t all rest = rest (omega arith)

  absent_past : (store : Store) → length store ≤ position_or_len (λ e. bytes_eq name e.0) store → table_of store name ≡ None
  absent_past [] all = refl
  absent_past (entry ∷ store) all = past (bytes_eq name entry.0) (position_or_len (λ e. bytes_eq name e.0) store) (length store) (table_of store name) entry.1 all (absent_past store)

  pub absent : (store : Store) → position (λ e. bytes_eq name e.0) store ≡ None → table_of store name ≡ None
  absent store e =
      let n = position_or_len (λ x. bytes_eq name x.0) store in
      absent_past store (ltb-false n (length store) (none_if (ltb n (length store)) n e))

-- a statement over a table that is changed at its place
module _ (store : Store) (said : Content) (name : List ℕ) (statement : StatementTree) (tests : Table → Tests) (says : Table → Reply) (change : Table → Table)
    (tested : tests_of store said statement ≡ over (table_of store name) tests)
    (carries : ◌≡◌ {A = Reply × Store} (carried_out store said statement) (says (table_or_none (table_of store name)), with_table store name change)) where
  by_first : (first : Option Refusal) (i : ℕ) (entry : List ℕ × Table) (new : Table) (reply : Reply) → first_that_holds (tests_of store said statement) ≡ first → Found name change store i entry → set store i entry ≡ store
      → MatchOption first ((reply ≡ says entry.1) × (new ≡ change entry.1)) (λ refusal. (reply ≡ Refused refusal) × (new ≡ entry.1))
      → ◌≡◌ {A = Reply × Store} (reply, set store i (entry.0, new)) (outcome_of store said statement)
  by_first None i entry new reply is at same h =
      (λ j. (h.0 j, set store i (entry.0, h.1 j))) ∙ (λ j. (says (table_or_none (sym at.there j)), at.changed j)) ∙ sym carries ∙ sym (outcome_is store said statement None is)
  by_first (Some refusal) i entry new reply is at same h =
      (λ j. (h.0 j, set store i (entry.0, h.1 j))) ∙ ap (λ s. (Refused refusal, s)) same ∙ sym (outcome_is store said statement (Some refusal) is)

  pub changed_at : {E : Type 0} (i : ℕ) (d : List ℕ × Table) (new : Table) (r : Result Reply E) → position (λ e. bytes_eq name e.0) store ≡ Some i → d ≡ get_or store i d
      → IfOk r (λ reply. MatchOption (first_that_holds (tests (get_or store i d).1)) ((reply ≡ says (get_or store i d).1) × (new ≡ change (get_or store i d).1)) (λ refusal. (reply ≡ Refused refusal) × (new ≡ (get_or store i d).1)))
      → IfOk r (λ reply. ◌≡◌ {A = Reply × Store} (reply, set store i ((get_or store i d).0, new)) (outcome_of store said statement))
  changed_at i d new (Err e) place at h = tt
  changed_at i d new (Ok reply) place at h =
      let entry = get_or store i d in
      let there = found name change store i entry place (ap (get_or store i) at) in
      by_first (first_that_holds (tests entry.1)) i entry new reply
      (ap first_that_holds tested ∙ ap (λ o. first_that_holds (over o tests)) there.there) there (set-get_or store i d) h

  pub no_table : table_of store name ≡ None → ◌≡◌ {A = Reply × Store} (Refused NoSuchTable, store) (outcome_of store said statement)
  no_table none = sym (outcome_is store said statement (Some NoSuchTable) (ap first_that_holds tested ∙ ap (λ o. first_that_holds (over o tests)) none))

-- each such statement

module _ (store : Store) (name : List ℕ) (listed : Option (List (List ℕ))) (rows : List Row) where
  abbrev Inserts : Table → Tests
  Inserts table = insert_tests (target_columns table.headers listed) rows table

  pub inserted : {E : Type 0} (i : ℕ) (d : List ℕ × Table) (new : Table) (r : Result Reply E) → position (λ e. bytes_eq name e.0) store ≡ Some i → d ≡ get_or store i d
      → IfOk r (λ reply. MatchOption (first_that_holds (insert_tests (target_columns (get_or store i d).1.headers listed) rows (get_or store i d).1)) ((reply ≡ Count (length rows)) × (new ≡ with_rows listed rows (get_or store i d).1)) (λ refusal. (reply ≡ Refused refusal) × (new ≡ (get_or store i d).1)))
      → IfOk r (λ reply. ◌≡◌ {A = Reply × Store} (reply, set store i ((get_or store i d).0, new)) (outcome_of store Nothing (insert name listed rows)))
  inserted = changed_at store Nothing name (insert name listed rows) Inserts (λ table. Count (length rows)) (with_rows listed rows) refl refl

  pub not_inserted : table_of store name ≡ None → ◌≡◌ {A = Reply × Store} (Refused NoSuchTable, store) (outcome_of store Nothing (insert name listed rows))
  not_inserted = no_table store Nothing name (insert name listed rows) Inserts (λ table. Count (length rows)) (with_rows listed rows) refl refl

module _ (store : Store) (name : List ℕ) (sets : List SetClause) (condition : Option ConditionTree) where
  pub updated : {E : Type 0} (i : ℕ) (d : List ℕ × Table) (new : Table) (r : Result Reply E) → position (λ e. bytes_eq name e.0) store ≡ Some i → d ≡ get_or store i d
      → IfOk r (λ reply. MatchOption (first_that_holds (update_tests sets condition (get_or store i d).1)) ((reply ≡ Count (length (found_rows (get_or store i d).1 condition))) × (new ≡ with_updates sets condition (get_or store i d).1)) (λ refusal. (reply ≡ Refused refusal) × (new ≡ (get_or store i d).1)))
      → IfOk r (λ reply. ◌≡◌ {A = Reply × Store} (reply, set store i ((get_or store i d).0, new)) (outcome_of store Nothing (update name sets condition)))
  updated = changed_at store Nothing name (update name sets condition) (update_tests sets condition) (λ table. Count (length (found_rows table condition))) (with_updates sets condition) refl refl

  pub not_updated : table_of store name ≡ None → ◌≡◌ {A = Reply × Store} (Refused NoSuchTable, store) (outcome_of store Nothing (update name sets condition))
  not_updated = no_table store Nothing name (update name sets condition) (update_tests sets condition) (λ table. Count (length (found_rows table condition))) (with_updates sets condition) refl refl

module _ (store : Store) (name : List ℕ) (condition : Option ConditionTree) where
  pub deleted : {E : Type 0} (i : ℕ) (d : List ℕ × Table) (new : Table) (r : Result Reply E) → position (λ e. bytes_eq name e.0) store ≡ Some i → d ≡ get_or store i d
      → IfOk r (λ reply. MatchOption (first_that_holds (delete_tests condition (get_or store i d).1)) ((reply ≡ Count (length (found_rows (get_or store i d).1 condition))) × (new ≡ without_found condition (get_or store i d).1)) (λ refusal. (reply ≡ Refused refusal) × (new ≡ (get_or store i d).1)))
      → IfOk r (λ reply. ◌≡◌ {A = Reply × Store} (reply, set store i ((get_or store i d).0, new)) (outcome_of store Nothing (delete name condition)))
  deleted = changed_at store Nothing name (delete name condition) (delete_tests condition) (λ table. Count (length (found_rows table condition))) (without_found condition) refl refl

  pub not_deleted : table_of store name ≡ None → ◌≡◌ {A = Reply × Store} (Refused NoSuchTable, store) (outcome_of store Nothing (delete name condition))
  not_deleted = no_table store Nothing name (delete name condition) (delete_tests condition) (λ table. Count (length (found_rows table condition))) (without_found condition) refl refl

module _ (store : Store) (name : List ℕ) (choices : List LayoutChoice) where
  pub rebuilt : {E : Type 0} (i : ℕ) (d : List ℕ × Table) (new : Table) (r : Result Reply E) → position (λ e. bytes_eq name e.0) store ≡ Some i → d ≡ get_or store i d
      → IfOk r (λ reply. MatchOption (first_that_holds (rebuild_tests choices (get_or store i d).1)) ((reply ≡ Done) × (new ≡ with_choices choices (get_or store i d).1)) (λ refusal. (reply ≡ Refused refusal) × (new ≡ (get_or store i d).1)))
      → IfOk r (λ reply. ◌≡◌ {A = Reply × Store} (reply, set store i ((get_or store i d).0, new)) (outcome_of store Nothing (rebuild name choices)))
  rebuilt = changed_at store Nothing name (rebuild name choices) (rebuild_tests choices) (λ table. Done) (with_choices choices) refl refl

  pub not_rebuilt : table_of store name ≡ None → ◌≡◌ {A = Reply × Store} (Refused NoSuchTable, store) (outcome_of store Nothing (rebuild name choices))
  not_rebuilt = no_table store Nothing name (rebuild name choices) (rebuild_tests choices) (λ table. Done) (with_choices choices) refl refl

-- the tests of a SELECT, over the table that is there
pub query_first : (store : Store) (query : SelectTree) (table : Table) (first : Option Refusal)
    → table_of store query.table ≡ Some table → first_that_holds (select_tests query table.headers) ≡ first → first_that_holds (query_tests query store) ≡ first
query_first store query table first there is = ap (λ o. first_that_holds (over o (λ t. select_tests query t.headers))) there ∙ is

-- what a SELECT shows
pub selected : (store : Store) (query : SelectTree) (table : Table) (shows : Shown)
    → table_of store query.table ≡ Some table → first_that_holds (select_tests query table.headers) ≡ None → shows ≡ answer table query
    → ◌≡◌ {A = Reply × Store} (Rows shows, store) (outcome_of store Nothing (select query))
selected store query table shows there none is =
    let same : shows ≡ answer (table_or_none (table_of store query.table)) query = is ∙ ap (λ o. answer (table_or_none o) query) (sym there) in
    (λ j. (Rows (same j), store)) ∙ sym (outcome_is store Nothing (select query) None (query_first store query table None there none))

module _ (store : Store) (said : Content) (name file : List ℕ) (first : FirstRecord) where
  pub loaded : {E : Type 0} (i : ℕ) (d : List ℕ × Table) (new : Table) (r : Result Reply E) → position (λ e. bytes_eq name e.0) store ≡ Some i → d ≡ get_or store i d
      → IfOk r (λ reply. MatchOption (first_that_holds (load_tests said (get_or store i d).1)) ((reply ≡ Count (length (lines_in said))) × (new ≡ with_lines (lines_in said) (get_or store i d).1)) (λ refusal. (reply ≡ Refused refusal) × (new ≡ (get_or store i d).1)))
      → IfOk r (λ reply. ◌≡◌ {A = Reply × Store} (reply, set store i ((get_or store i d).0, new)) (outcome_of store said (load name file first)))
  loaded = changed_at store said name (load name file first) (load_tests said) (λ table. Count (length (lines_in said))) (with_lines (lines_in said)) refl refl

  pub not_loaded : table_of store name ≡ None → ◌≡◌ {A = Reply × Store} (Refused NoSuchTable, store) (outcome_of store said (load name file first))
  not_loaded = no_table store said name (load name file first) (load_tests said) (λ table. Count (length (lines_in said))) (with_lines (lines_in said)) refl refl

-- a table that is opened
pub opened : (store after : Store) (said : Content) (name given file : List ℕ) (table : Table) (count : ℕ)
    → first_that_holds (open_tests name store said) ≡ None → given ≡ name → table ≡ table_held said → count ≡ length table.rows → after ≡ store ++ (given, table) ∷ []
    → ◌≡◌ {A = Reply × Store} (Count count, after) (outcome_of store said (open_table name file))
opened store after said name given file table count none named held counted put =
    (λ j. (Count ((counted ∙ ap (λ t. length t.rows) held) j), (put ∙ ap (λ n. store ++ (n, table) ∷ []) named ∙ ap (λ t. store ++ (name, t) ∷ []) held) j))
    ∙ sym (outcome_is store said (open_table name file) None none)
