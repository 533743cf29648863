-- A refusal changes nothing, and comes first where the tests that need no file have one.
use Rattle.std.proofs.Common.{◌≡◌, ◌∙◌, inl, inr, ap, Bool, true, false, is_some, nat_le, length, List, [], ◌∷◌, Option, None, Some, if◌then◌else◌}
use Rattle.bw_sql.specs.declared.tree.SetClause.{SetClause}
use Rattle.bw_sql.specs.Tree.{ConditionTree, StatementTree, create_table, delete, drop_table, insert, list_tables, load, open_table, rebuild, save, select, stats, update}
use Rattle.bw_model.specs.Refusals.{copy_test, first_that_holds, load_tests, over, refused_early, set_tests, tests_of, update_tests}
use Rattle.bw_model.specs.Step.{Step, carried_out, refused_or}
use Rattle.bw_model.specs.Store.{Store, Table, table_limit, table_of}
use Rattle.bw_model.specs.declared.content.Content.{Content}
use Rattle.bw_model.specs.declared.refusal.Refusal.{Refusal}
use Rattle.bw_model.specs.declared.refusal.Refusal.TheVariants.{OverLimit, TableExists}
use Rattle.bw_model.specs.declared.reply.Reply.{Reply}
use Rattle.bw_model.specs.declared.reply.Reply.TheVariants.{Refused}
use Rattle.bw_model.proofs.Passing.{first-append_some}

pub never_refuses : (store : Store) (said : Content) (statement : StatementTree) (refusal : Refusal) → Refused refusal ≡ (carried_out store said statement).0 → ⊥
never_refuses store said (create_table name columns) refusal e = cc
never_refuses store said (drop_table name) refusal e = cc
never_refuses store said list_tables refusal e = cc
never_refuses store said (insert name listed rows) refusal e = cc
never_refuses store said (update name sets condition) refusal e = cc
never_refuses store said (delete name condition) refusal e = cc
never_refuses store said (rebuild name choices) refusal e = cc
never_refuses store said (select query) refusal e = cc
never_refuses store said (stats query) refusal e = cc
never_refuses store said (load name file first) refusal e = cc
never_refuses store said (save name file) refusal e = cc
never_refuses store said (open_table name file) refusal e = cc

by_first : (first : Option Refusal) (store after : Store) (said : Content) (statement : StatementTree) (refusal : Refusal) → ◌≡◌ {A = Reply × Store} (Refused refusal, after) (refused_or first store (carried_out store said statement)) → after ≡ store
by_first None store after said statement refusal e = absurd (never_refuses store said statement refusal (ap (λ p. p.0) e))
by_first (Some other) store after said statement refusal e = ap (λ p. p.1) e

pub unchanged : (store after : Store) (said : Content) (statement : StatementTree) (refusal : Refusal) → Step store said statement (Refused refusal) after → after ≡ store
unchanged store after said statement refusal step =
    elim step [ inl free ↦ free.stays | inr e ↦ by_first (first_that_holds (tests_of store said statement)) store after said statement refusal e ]

-- the tests that need no file are those in front

early_load : (there : Option Table) (said : Content) (refusal : Refusal) → first_that_holds (over there (λ table. [])) ≡ Some refusal → first_that_holds (over there (load_tests said)) ≡ Some refusal
early_load None said refusal e = e
early_load (Some table) said refusal e = absurd (cc)

early_update : (there : Option Table) (sets : List SetClause) (condition : Option ConditionTree) (refusal : Refusal)
    → first_that_holds (over there (λ table. set_tests table.headers sets condition)) ≡ Some refusal → first_that_holds (over there (update_tests sets condition)) ≡ Some refusal
early_update None sets condition refusal e = e
early_update (Some table) sets condition refusal e = first-append_some (set_tests table.headers sets condition) (copy_test sets condition table ∷ []) refusal e

early_open : (taken full : Bool) (later : Option Refusal) (refusal : Refusal) → (if taken then Some TableExists else if full then Some OverLimit else None) ≡ Some refusal
    → (if taken then Some TableExists else if full then Some OverLimit else later) ≡ Some refusal
early_open true full later refusal e = e
early_open false true later refusal e = e
early_open false false later refusal e = absurd (cc)

pub early_first : (store : Store) (said : Content) (statement : StatementTree) (refusal : Refusal) → refused_early store statement ≡ Some refusal → first_that_holds (tests_of store said statement) ≡ Some refusal
early_first store said (create_table name columns) refusal e = e
early_first store said (drop_table name) refusal e = e
early_first store said list_tables refusal e = e
early_first store said (insert name listed rows) refusal e = e
early_first store said (update name sets condition) refusal e = early_update (table_of store name) sets condition refusal e
early_first store said (delete name condition) refusal e = e
early_first store said (rebuild name choices) refusal e = e
early_first store said (select query) refusal e = e
early_first store said (stats query) refusal e = e
early_first store said (load name file first) refusal e = early_load (table_of store name) said refusal e
early_first store said (save name file) refusal e = e
early_first store said (open_table name file) refusal e = early_open (is_some (table_of store name)) (nat_le table_limit (length store)) _ refusal e

none_and_some : {P : Type 0} (o : Option Refusal) (refusal : Refusal) → o ≡ None → o ≡ Some refusal → P
none_and_some None refusal e f = cc
none_and_some (Some other) refusal e f = cc

-- a refusal whatever the file says comes whatever memory there is
pub refused_first : (store after : Store) (said : Content) (statement : StatementTree) (reply : Reply) (refusal : Refusal) → refused_early store statement ≡ Some refusal → Step store said statement reply after → (reply ≡ Refused refusal) × (after ≡ store)
refused_first store after said statement reply refusal early step =
    elim step [
      | inl free ↦ none_and_some (refused_early store statement) refusal free.accepted early
      | inr e ↦ let is = e ∙ ap (λ o. refused_or o store (carried_out store said statement)) (early_first store said statement refusal early) in (ap (λ p. p.0) is, ap (λ p. p.1) is)
    ]
