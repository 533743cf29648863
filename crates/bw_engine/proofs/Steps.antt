-- The store by name, and the step from what a statement answers.
use Rattle.std.proofs.Common.{◌≡◌, inl, inr, ℕ, Bool, true, false, List, [], ◌∷◌, ◌++◌, length, Option, None, Some, is_some, option_map, Result, Ok, Err, OnErr, OnOk, if◌then◌else◌, refl, sym, ap, ◌∙◌}
use Rattle.std.specs.Map.{lookup, remove_entry, set_value}
use Rattle.std.specs.Str.{bytes_eq}
use Rattle.std.proofs.lemmas.Bool.{true≢false}
use Rattle.std.proofs.lemmas.List.{length-map}
use Rattle.std.proofs.lemmas.Result.{on_err_weaker, on_ok_weaker}
use Rattle.bw_sql.specs.Tree.{StatementTree}
use Rattle.bw_model.specs.Refusals.{Tests, first_that_holds, over}
use Rattle.bw_model.specs.Step.{Step, carried_out, refused_or, table_or_none, with_table, without_table}
use Rattle.bw_model.specs.Store.{Store, Table, table_of}
use Rattle.bw_model.specs.declared.content.Content.{Content}
use Rattle.bw_model.specs.declared.refusal.Refusal.{Refusal}
use Rattle.bw_model.specs.declared.refusal.Refusal.TheVariants.{NoSuchTable}
use Rattle.bw_model.specs.declared.reply.Reply.{Reply}
use Rattle.bw_model.specs.declared.reply.Reply.TheVariants.{Refused}
use Rattle.bw_plan.specs.Checks.{Answers, MayRefuse}
use Rattle.bw_plan.proofs.Tests.{answers_same}
use Rattle.bw_engine.specs.Outcomes.{AnswersAfter, CarriesOut, reply_of}
use Rattle.bw_engine.specs.StoredChanges.{IsChanged}
use Rattle.bw_engine.specs.Stores.{Stored, StoredTable, store_of, table_in}

push_map : {A B : Type 0} (f : A → B) (b : Bool) (x : A) (o : Option A) → (if b then Some (f x) else option_map f o) ≡ option_map f (if b then Some x else o)
push_map f true x o = refl
push_map f false x o = refl

-- the table of this name
pub found_in : (tables : Stored) (name : List ℕ) → table_of (store_of tables) name ≡ option_map table_in (lookup (bytes_eq name) tables)
found_in [] name = refl
found_in (entry ∷ tables) name =
    ap (λ o. if bytes_eq name entry.0 then Some (table_in entry.1) else o) (found_in tables name) ∙ push_map table_in (bytes_eq name entry.0) entry.1 (lookup (bytes_eq name) tables)

pub some_map : {A B : Type 0} (f : A → B) (o : Option A) → is_some (option_map f o) ≡ is_some o
some_map f None = refl
some_map f (Some x) = refl

pub tables_count : (tables : Stored) → length (store_of tables) ≡ length tables
tables_count tables = length-map tables (λ entry. (entry.0, table_in entry.1))

-- one table more
pub stored_more : (tables : Stored) (name : List ℕ) (table : StoredTable) → store_of (tables ++ (name, table) ∷ []) ≡ store_of tables ++ (name, table_in table) ∷ []
stored_more [] name table = refl
stored_more (entry ∷ tables) name table = ap (λ l. (entry.0, table_in entry.1) ∷ l) (stored_more tables name table)

-- and one less
pub stored_less : (tables : Stored) (name : List ℕ) → store_of (remove_entry (bytes_eq name) tables) ≡ without_table (store_of tables) name
stored_less [] name = refl
stored_less (entry ∷ tables) name =
    out (bytes_eq name entry.0) ∙ ap (λ l. if bytes_eq name entry.0 then store_of tables else (entry.0, table_in entry.1) ∷ l) (stored_less tables name)
  where
    out : (b : Bool) → store_of (if b then tables else entry ∷ remove_entry (bytes_eq name) tables) ≡ (if b then store_of tables else (entry.0, table_in entry.1) ∷ store_of (remove_entry (bytes_eq name) tables))
    out true = refl
    out false = refl

-- the tables with one in the place of the one of this name
changed_in : (tables : Stored) (name : List ℕ) (table new : StoredTable) (change : Table → Table) → lookup (bytes_eq name) tables ≡ Some table → table_in new ≡ change (table_in table)
    → store_of (set_value (bytes_eq name) tables new) ≡ with_table (store_of tables) name change
changed_in [] name table new change there is = refl
changed_in (entry ∷ tables) name table new change there is =
    by (bytes_eq name entry.0) there (λ deeper. changed_in tables name table new change deeper is)
  where
    by : (b : Bool) → (if b then Some entry.1 else lookup (bytes_eq name) tables) ≡ Some table → (lookup (bytes_eq name) tables ≡ Some table → store_of (set_value (bytes_eq name) tables new) ≡ with_table (store_of tables) name change)
        → store_of (if b then (entry.0, new) ∷ tables else entry ∷ set_value (bytes_eq name) tables new) ≡ (if b then (entry.0, change (table_in entry.1)) ∷ store_of tables else (entry.0, table_in entry.1) ∷ with_table (store_of tables) name change)
    by true here deeper = let same : entry.1 ≡ table = cc in ap (λ t. (entry.0, t) ∷ store_of tables) (is ∙ ap (λ t. change (table_in t)) (sym same))
    by false here deeper = ap (λ l. (entry.0, table_in entry.1) ∷ l) (deeper here)

-- and with the same one they are the same
same_in : (tables : Stored) (name : List ℕ) (table : StoredTable) → lookup (bytes_eq name) tables ≡ Some table → set_value (bytes_eq name) tables table ≡ tables
same_in [] name table there = refl
same_in (entry ∷ tables) name table there =
    by (bytes_eq name entry.0) there (same_in tables name table)
  where
    by : (b : Bool) → (if b then Some entry.1 else lookup (bytes_eq name) tables) ≡ Some table → (lookup (bytes_eq name) tables ≡ Some table → set_value (bytes_eq name) tables table ≡ tables)
        → (if b then (entry.0, table) ∷ tables else entry ∷ set_value (bytes_eq name) tables table) ≡ entry ∷ tables
    by true here deeper = let same : entry.1 ≡ table = cc in ap (λ t. (entry.0, t) ∷ tables) (sym same)
    by false here deeper = ap (λ l. entry ∷ l) (deeper here)

-- A statement over one table, which may change it.
module _ (tables : Stored) (name : List ℕ) (table : StoredTable) (there : lookup (bytes_eq name) tables ≡ Some table) where
  is_there : table_of (store_of tables) name ≡ Some (table_in table)
  is_there = found_in tables name ∙ ap (option_map table_in) there

  module _ (new : StoredTable) (after : Stored) (is : after ≡ set_value (bytes_eq name) tables new) where
    pub changes_table : (tests : Table → Tests) (says : Table → Reply) (change : Table → Table) (r : Result Reply Refusal)
        → Answers (tests (table_in table)) r (λ reply. (reply ≡ says (table_in table)) × (table_in new ≡ change (table_in table)))
        → Answers (over (table_of (store_of tables) name) tests) r (λ reply. ◌≡◌ {A = Reply × Store} (reply, store_of after) (says (table_or_none (table_of (store_of tables) name)), with_table (store_of tables) name change))
    changes_table tests says change r answers =
        answers_same (tests (table_in table)) (over (table_of (store_of tables) name) tests) r
        (λ reply. (reply ≡ says (table_in table)) × (table_in new ≡ change (table_in table)))
        (λ reply. ◌≡◌ {A = Reply × Store} (reply, store_of after) (says (table_or_none (table_of (store_of tables) name)), with_table (store_of tables) name change))
        (ap (λ o. first_that_holds (over o tests)) (sym is_there))
        (λ reply none p.
        let replied = p.0 ∙ ap (λ o. says (table_or_none o)) (sym is_there) in
        let stored = ap store_of is ∙ changed_in tables name table new change there p.1 in
        λ j. (replied j, stored j))
        answers

    pub changes_after : (early tests : Table → Tests) (says : Table → Reply) (change : Table → Table) (r : Result Reply Refusal)
        → AnswersAfter (early (table_in table)) (tests (table_in table)) r (λ reply. (reply ≡ says (table_in table)) × (table_in new ≡ change (table_in table)))
        → AnswersAfter (over (table_of (store_of tables) name) early) (over (table_of (store_of tables) name) tests) r
        (λ reply. ◌≡◌ {A = Reply × Store} (reply, store_of after) (says (table_or_none (table_of (store_of tables) name)), with_table (store_of tables) name change))
    changes_after early tests says change (Ok reply) answers =
        let replied = answers.1.0 ∙ ap (λ o. says (table_or_none o)) (sym is_there) in
        let stored = ap store_of is ∙ changed_in tables name table new change there answers.1.1 in
        (ap (λ o. first_that_holds (over o tests)) is_there ∙ answers.0, λ j. (replied j, stored j))
    changes_after early tests says change (Err e) answers =
        elim answers [
          | inl p ↦ inl (ap (λ o. first_that_holds (over o early)) is_there ∙ p.0, p.1)
          | inr p ↦ inr (ap (λ o. first_that_holds (over o tests)) is_there ∙ p)
        ]

    pub changes_stored : (Change : StoredTable → StoredTable → Type 0) (r : Result Reply Refusal) → OnOk r (Change table new) → OnOk r (IsChanged Change tables name after)
    changes_stored Change r changed = on_ok_weaker r (λ c. record { old = table; new = new; there = there; changed = c; set = is }) changed

    pub keeps_tables : (r : Result Reply Refusal) → OnErr r (new ≡ table) → OnErr r (after ≡ tables)
    keeps_tables r stays = on_err_weaker r (λ same. is ∙ ap (set_value (bytes_eq name) tables) same ∙ same_in tables name table there) stays

  pub reads_table : (tests : Table → Tests) (says : Table → Reply) (r : Result Reply Refusal)
      → Answers (tests (table_in table)) r (λ reply. reply ≡ says (table_in table))
      → Answers (over (table_of (store_of tables) name) tests) r (λ reply. ◌≡◌ {A = Reply × Store} (reply, store_of tables) (says (table_or_none (table_of (store_of tables) name)), store_of tables))
  reads_table tests says r answers =
      answers_same (tests (table_in table)) (over (table_of (store_of tables) name) tests) r (λ reply. reply ≡ says (table_in table))
      (λ reply. ◌≡◌ {A = Reply × Store} (reply, store_of tables) (says (table_or_none (table_of (store_of tables) name)), store_of tables))
      (ap (λ o. first_that_holds (over o tests)) (sym is_there))
      (λ reply none p. let replied = p ∙ ap (λ o. says (table_or_none o)) (sym is_there) in λ j. (replied j, store_of tables))
      answers

-- a statement over a table that isn't there
pub no_table : (tables : Stored) (name : List ℕ) (tests : Table → Tests) → lookup (bytes_eq name) tables ≡ None → MayRefuse (over (table_of (store_of tables) name) tests) NoSuchTable
no_table tables name tests absent = inr (ap (λ o. first_that_holds (over o tests)) (found_in tables name ∙ ap (option_map table_in) absent))

-- the same where not all of the tests are early
pub first_no_table : (tables : Stored) (name : List ℕ) (tests : Table → Tests) → lookup (bytes_eq name) tables ≡ None → first_that_holds (over (table_of (store_of tables) name) tests) ≡ Some NoSuchTable
first_no_table tables name tests absent = ap (λ o. first_that_holds (over o tests)) (found_in tables name ∙ ap (option_map table_in) absent)

pub absent-none : {A : Type 0} (o : Option A) → is_some o ≡ false → o ≡ None
absent-none None e = refl
absent-none (Some x) e = absurd (true≢false e)

-- a statement that answers by its tests takes a step
pub steps : (tables after : Stored) (said : Content) (statement : StatementTree) (r : Result Reply Refusal)
    → CarriesOut (store_of tables) said statement r (store_of after) → OnErr r (after ≡ tables) → Step (store_of tables) said statement (reply_of r) (store_of after)
steps tables after said statement (Ok reply) h stays = inr (h.1 ∙ ap (λ o. refused_or o (store_of tables) (carried_out (store_of tables) said statement)) (sym h.0))
steps tables after said statement (Err e) h stays =
    elim h [
      | inl p ↦ inl (record { accepted = p.0; says = ap (λ x. Refused x) p.1; stays = ap store_of stays })
      | inr p ↦ inr (ap (λ s. (Refused e, s)) (ap store_of stays) ∙ ap (λ o. refused_or o (store_of tables) (carried_out (store_of tables) said statement)) (sym p))
    ]

-- where a statement asks for nothing but its table
pub over_none : (o : Option Table) → is_some o ≡ false → first_that_holds (over o (λ table. [])) ≡ Some NoSuchTable
over_none None e = refl
over_none (Some table) e = absurd (true≢false e)

pub over_any : (o : Option Table) → is_some o ≡ true → first_that_holds (over o (λ table. [])) ≡ None
over_any None e = absurd (true≢false (sym e))
over_any (Some table) e = refl
