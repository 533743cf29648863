-- What a STATS prints, and that nothing else prints it.
use Rattle.std.proofs.Common.{◌≡◌, ℕ, Bool, List, Option, None, Some, refl, sym, subst, inl, inr}
use Rattle.bw_sql.specs.Statements.{Says}
use Rattle.bw_sql.specs.Tree.{SelectTree, StatementTree, create_table, delete, drop_table, insert, list_tables, load, open_table, rebuild, save, select, stats, update}
use Rattle.bw_model.specs.FileUse.{FileUse, file_use, no_file, reads, unless_refused, writes}
use Rattle.bw_model.specs.Refusals.{first_that_holds, refusal_of_fault, refused_early, tests_of}
use Rattle.bw_model.specs.Step.{carried_out, outcome_of, refused_or}
use Rattle.bw_model.specs.Store.{Store}
use Rattle.bw_model.specs.declared.content.Content.{Content}
use Rattle.bw_model.specs.declared.refusal.Refusal.{Refusal}
use Rattle.bw_model.specs.declared.refusal.Refusal.TheVariants.{OutOfMemory, StatementTooLong, Syntax, UnreadableFile, UnwritableFile}
use Rattle.bw_model.specs.declared.reply.Reply.{Reply}
use Rattle.bw_model.specs.declared.reply.Reply.TheVariants.{Count, Refused, Units}
use Rattle.bw_engine.specs.Counting.{said_of, units_of}
use Rattle.bw_shell.specs.Answers.{Answers, AnswersBy, Outcome}
use Rattle.bw_shell.specs.Run.{MayAnswer, no_statement, statement, too_long, unclosed}
use Rattle.bw_shell.specs.States.{State, store_in}

no_number : {P : Type 0} (n : ℕ) (refusal : Refusal) → Units n ≡ Refused refusal → P
no_number n refusal e = cc

one_number : (n m : ℕ) → Units n ≡ Units m → n ≡ m
one_number n m e = cc

counted : (first : Option Refusal) (store : Store) (n m : ℕ) → Units n ≡ (refused_or first store (Units m, store)).0 → n ≡ m
counted None store n m e = one_number n m e
counted (Some refusal) store n m e = no_number n refusal e

none_used : (o : Option Refusal) → unless_refused o no_file ≡ no_file
none_used None = refl
none_used (Some refusal) = refl

module _ (before after : State) (query : SelectTree) (n : ℕ) where
  by_outcome : Outcome before (said_of before.tables (stats query)) (stats query) (Units n) after → (n ≡ units_of before.tables query) × (after.tables ≡ before.tables)
  by_outcome outcome =
      (counted (first_that_holds (tests_of (store_in before) (said_of before.tables (stats query)) (stats query))) (store_in before) n (units_of before.tables query) outcome.replies, outcome.stored)

  pub counts_units : Answers before (stats query) (Units n) after → (n ≡ units_of before.tables query) × (after.tables ≡ before.tables)
  counts_units answers =
      elim answers [
        | inl wants ↦ no_number n OutOfMemory wants.says
        | inr by ↦ by_outcome (subst (λ used. AnswersBy used before (stats query) (Units n) after) (none_used (refused_early (store_in before) (stats query))) by)
      ]

-- of the statements STATS alone is answered so

abbrev IsStats : StatementTree → Type 0
IsStats tree = (query : SelectTree) × (tree ≡ stats query)

carried : (store : Store) (said : Content) (tree : StatementTree) (n : ℕ) → Units n ≡ (carried_out store said tree).0 → IsStats tree
carried store said (create_table name columns) n e = cc
carried store said (drop_table name) n e = cc
carried store said list_tables n e = cc
carried store said (insert name listed rows) n e = cc
carried store said (update name sets condition) n e = cc
carried store said (delete name condition) n e = cc
carried store said (rebuild name choices) n e = cc
carried store said (select query) n e = cc
carried store said (stats query) n e = (query, refl)
carried store said (load name file first) n e = cc
carried store said (save name file) n e = cc
carried store said (open_table name file) n e = cc

by_tests : (first : Option Refusal) (store : Store) (said : Content) (tree : StatementTree) (n : ℕ) → Units n ≡ (refused_or first store (carried_out store said tree)).0 → IsStats tree
by_tests None store said tree n e = carried store said tree n e
by_tests (Some refusal) store said tree n e = no_number n refusal e

is_stats : (store : Store) (said : Content) (tree : StatementTree) (n : ℕ) → Units n ≡ (outcome_of store said tree).0 → IsStats tree
is_stats store said tree n e = by_tests (first_that_holds (tests_of store said tree)) store said tree n e

no_count : {P : Type 0} (n m : ℕ) → Units n ≡ Count m → P
no_count n m e = cc

module _ (before after : State) (tree : StatementTree) (n : ℕ) where
  by_use : (use_of : FileUse) → AnswersBy use_of before tree (Units n) after → IsStats tree
  by_use no_file outcome = is_stats (store_in before) (said_of before.tables tree) tree n outcome.replies
  by_use (reads file) answers =
      elim answers [
        | inl by ↦ is_stats (store_in before) by.said tree n by.outcome.replies
        | inr cannot ↦ no_number n UnreadableFile cannot.says
      ]
  by_use (writes file) answers = elim answers [ inl saved ↦ no_count n _ saved.says | inr cannot ↦ no_number n UnwritableFile cannot.says ]

  answered : Answers before tree (Units n) after → IsStats tree
  answered answers = elim answers [ inl wants ↦ no_number n OutOfMemory wants.says | inr by ↦ by_use (file_use (store_in before) tree) by ]

-- a part of a script that is answered so says a STATS
abbrev IsCounted : State → List ℕ → ℕ → State → Type 0
IsCounted before text n after = (query : SelectTree) × Says text (stats query) × (n ≡ units_of before.tables query) × (after.tables ≡ before.tables)

by_answer : (state after : State) (closed : Bool) (text : List ℕ) (reply : Reply) (n : ℕ) → reply ≡ Units n → MayAnswer state closed text reply after → IsCounted state text n after
by_answer state after closed text reply n e (too_long long) = no_number n StatementTooLong (sym e)
by_answer state after closed text reply n e (unclosed short) = no_number n Syntax (sym e)
by_answer state after closed text reply n e (no_statement fault is) = no_number n (refusal_of_fault fault) (sym e)
by_answer state after closed text reply n e (statement tree says answers) =
    let units : Answers state tree (Units n) after = subst (λ r. Answers state tree r after) e answers in
    let is = answered state after tree n units in
    let counts = counts_units state after is.0 n (subst (λ t. Answers state t (Units n) after) is.1 units) in
    (is.0, subst (Says text) is.1 says, counts.0, counts.1)

pub part_counted : (before after : State) (closed : Bool) (text : List ℕ) (n : ℕ) → MayAnswer before closed text (Units n) after → IsCounted before text n after
part_counted before after closed text n answers = by_answer before after closed text (Units n) n refl answers
