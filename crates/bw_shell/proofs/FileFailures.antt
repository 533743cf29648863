-- Errors 40 and 41 of files that are there come of a folder that failed.
use Rattle.std.proofs.Common.{◌≡◌, ◌≢◌, ◌+◌, ℕ, Bool, true, false, List, [], ◌∷◌, length, nat_lt, Option, None, Some, Result, Ok, Err, if◌then◌else◌, refl, sym, ap, ◌∙◌, subst, inl, inr}
use Rattle.std.specs.Bool.{MatchBool}
use Rattle.std.proofs.lemmas.Bool.{true≢false}
use Rattle.bw_csvload.specs.declared.fault.CsvFault.{CsvFault}
use Rattle.bw_csvload.specs.declared.fault.CsvFault.TheVariants as csv
use Rattle.bw_sql.specs.Tree.{SelectTree, StatementTree, create_table, delete, drop_table, insert, list_tables, load, open_table, rebuild, save, select, stats, update}
use Rattle.bw_model.specs.Contents.{IsReadAs, IsSaid, IsTableIn, SaysTo, is_missing_file, lines_or_fault}
use Rattle.bw_model.specs.FileUse.{FileUse, file_use, no_file, reads, unless_refused, use_in, writes}
use Rattle.bw_model.specs.Filing.{file_limit}
use Rattle.bw_model.specs.Refusals.{Tests, fault_test, first_that_holds, over, query_tests, refusal_of_csv, refused_early, tests_of}
use Rattle.bw_model.specs.Step.{carried_out, outcome_of, refused_or}
use Rattle.bw_model.specs.Store.{Row, Store, Table, table_of}
use Rattle.bw_model.specs.declared.content.Content.{Content}
use Rattle.bw_model.specs.declared.content.Content.TheVariants as content
use Rattle.bw_model.specs.declared.refusal.Refusal.{Refusal}
use Rattle.bw_model.specs.declared.refusal.Refusal.TheVariants as refusal
use Rattle.bw_model.specs.declared.reply.Reply.TheVariants.{Count, Refused}
use Rattle.bw_model.proofs.Unchanged.{never_refuses}
use Rattle.bw_engine.specs.Counting.{said_of}
use Rattle.bw_engine.specs.Stores.{Stored}
use Rattle.bw_shell.specs.Answers.{Answers, AnswersBy, ByFile, Outcome}
use Rattle.bw_shell.specs.States.{HasFile, State, file_in, store_in}
use Rattle.bw_shell.proofs.Saves.{there_is}

-- the refusals that a file may be the reason of
abbrev of_file : Refusal → Bool
of_file refusal.UnreadableFile = true
of_file refusal.UnwritableFile = true
of_file _ = false

-- no test for this refusal holds
abbrev NoneHolds : Refusal → Tests → Type 0
NoneHolds wanted [] = Unit {0}
NoneHolds wanted (test ∷ tests) = (test.0 ≡ wanted → test.1 ≡ false) × NoneHolds wanted tests

step : (b : Bool) (first wanted : Refusal) (rest : Option Refusal) → (first ≡ wanted → b ≡ false) → rest ≢ Some wanted → (if b then Some first else rest) ≡ Some wanted → ⊥
step true first wanted rest not_first not_rest e = let same : first ≡ wanted = cc in true≢false (not_first same)
step false first wanted rest not_first not_rest e = not_rest e

not_first_that_holds : (wanted : Refusal) (tests : Tests) → NoneHolds wanted tests → first_that_holds tests ≢ Some wanted
not_first_that_holds wanted [] none = λ e. cc
not_first_that_holds wanted (test ∷ tests) none =
    step test.1 test.0 wanted (first_that_holds tests) none.0 (not_first_that_holds wanted tests none.1)

-- an outcome is no refusal for a file, where the file isn't missing
module _ (store : Store) (said : Content) (wanted : Refusal) (is_file : of_file wanted ≡ true) (there : wanted ≡ refusal.UnreadableFile → is_missing_file said ≡ false) where
  other : {b : Bool} (x : Refusal) → of_file x ≡ false → x ≡ wanted → b ≡ false
  other x apart e = absurd (true≢false (sym is_file ∙ sym (ap of_file e) ∙ apart))

  unreadable : refusal.UnreadableFile ≡ wanted → is_missing_file said ≡ false
  unreadable e = there (sym e)

  over_table : (found : Option Table) (tests : Table → Tests) → ((table : Table) → NoneHolds wanted (tests table)) → NoneHolds wanted (over found tests)
  over_table None tests each = (other refusal.NoSuchTable refl, tt)
  over_table (Some table) tests each = each table

  in_csv : (fault : CsvFault) → of_file (refusal_of_csv fault) ≡ false
  in_csv (csv.Fields record') = refl
  in_csv (csv.NotInteger record' field) = refl
  in_csv csv.Range = refl
  in_csv csv.Memory = refl

  in_file : (also : Content) → (fault_test also).0 ≡ wanted → (fault_test also).1 ≡ false
  in_file content.Nothing = λ e. refl
  in_file (content.Counted units) = λ e. refl
  in_file content.Missing = λ e. refl
  in_file content.TooLarge = λ e. refl
  in_file (content.Lines rows) = λ e. refl
  in_file (content.Fault fault) = other (refusal_of_csv fault) (in_csv fault)
  in_file (content.Held table) = λ e. refl
  in_file content.NotTable = λ e. refl

  in_query : (query : SelectTree) → NoneHolds wanted (query_tests query store)
  in_query query =
      over_table (table_of store query.table) _
      (λ table. (other refusal.NoSuchColumn refl, (other refusal.NoSuchColumn refl, (other refusal.NoSuchColumn refl, (other refusal.OverLimit refl, (other refusal.MixedItems refl, tt))))))

  none_holds : (tree : StatementTree) → NoneHolds wanted (tests_of store said tree)
  none_holds (create_table name columns) = (other refusal.TableExists refl, (other refusal.ColumnNamedTwice refl, (other refusal.OverLimit refl, (other refusal.LayoutTooNarrow refl, tt))))
  none_holds (drop_table name) = over_table (table_of store name) _ (λ table. tt)
  none_holds list_tables = tt
  none_holds (insert name listed rows) =
      over_table (table_of store name) _
      (λ table. (other refusal.NoSuchColumn refl, (other refusal.ColumnNamedTwice refl, (other refusal.WrongNumberOfValues refl, (other refusal.OutOfRange refl, (other refusal.TableFull refl, tt))))))
  none_holds (update name sets condition) =
      over_table (table_of store name) _
      (λ table. (other refusal.NoSuchColumn refl, (other refusal.NoSuchColumn refl, (other refusal.NoSuchColumn refl, (other refusal.ColumnNamedTwice refl, (other refusal.OverLimit refl, (other refusal.OutOfRange refl, (other refusal.OutOfRange refl, tt))))))))
  none_holds (delete name condition) = over_table (table_of store name) _ (λ table. (other refusal.NoSuchColumn refl, (other refusal.OverLimit refl, tt)))
  none_holds (rebuild name choices) = over_table (table_of store name) _ (λ table. (other refusal.NoSuchColumn refl, (other refusal.ColumnNamedTwice refl, (other refusal.LayoutTooNarrow refl, tt))))
  none_holds (select query) = in_query query
  none_holds (stats query) = in_query query
  none_holds (load name file first) = over_table (table_of store name) _ (λ table. (unreadable, (other refusal.FileTooLarge refl, (in_file said, (other refusal.TableFull refl, tt)))))
  none_holds (save name file) = over_table (table_of store name) _ (λ table. (other refusal.FileTooLarge refl, tt))
  none_holds (open_table name file) =
      (other refusal.TableExists refl, (other refusal.OverLimit refl, (unreadable, (other refusal.FileTooLarge refl, (other refusal.NotTableFile refl, tt)))))

  by_first : (tree : StatementTree) (first : Option Refusal) → first_that_holds (tests_of store said tree) ≡ first → (refused_or first store (carried_out store said tree)).0 ≡ Refused wanted → ⊥
  by_first tree None is e = never_refuses store said tree wanted (sym e)
  by_first tree (Some found) is e =
      let same : found ≡ wanted = cc in
      not_first_that_holds wanted (tests_of store said tree) (none_holds tree) (is ∙ ap Some same)

  pub no_outcome : (tree : StatementTree) → (outcome_of store said tree).0 ≡ Refused wanted → ⊥
  no_outcome tree = by_first tree (first_that_holds (tests_of store said tree)) refl

-- a file that is there isn't missing

lines_there : (lines : Result (List Row) CsvFault) → is_missing_file (lines_or_fault lines) ≡ false
lines_there (Ok rows) = refl
lines_there (Err fault) = refl

table_there : (bytes : List ℕ) (said : Content) → IsTableIn bytes said → is_missing_file said ≡ false
table_there bytes content.Nothing is = refl
table_there bytes (content.Counted units) is = refl
table_there bytes content.Missing is = absurd is
table_there bytes content.TooLarge is = refl
table_there bytes (content.Lines rows) is = refl
table_there bytes (content.Fault fault) is = refl
table_there bytes (content.Held table) is = refl
table_there bytes content.NotTable is = refl

read_there : (store : Store) (tree : StatementTree) (bytes : List ℕ) (said : Content) → IsReadAs store tree bytes said → is_missing_file said ≡ false
read_there store (create_table name columns) bytes said is = ap is_missing_file is
read_there store (drop_table name) bytes said is = ap is_missing_file is
read_there store list_tables bytes said is = ap is_missing_file is
read_there store (insert name listed rows) bytes said is = ap is_missing_file is
read_there store (update name sets condition) bytes said is = ap is_missing_file is
read_there store (delete name condition) bytes said is = ap is_missing_file is
read_there store (rebuild name choices) bytes said is = ap is_missing_file is
read_there store (select query) bytes said is = ap is_missing_file is
read_there store (stats query) bytes said is = ap is_missing_file is
read_there store (load name file first) bytes said is = ap is_missing_file is ∙ lines_there _
read_there store (save name file) bytes said is = ap is_missing_file is
read_there store (open_table name file) bytes said is = table_there bytes said is

by_length : (store : Store) (tree : StatementTree) (bytes : List ℕ) (said : Content) (long : Bool) → MatchBool long (said ≡ content.TooLarge) (IsReadAs store tree bytes said) → is_missing_file said ≡ false
by_length store tree bytes said true is = ap is_missing_file is
by_length store tree bytes said false is = read_there store tree bytes said is

-- nor is it where no file is read
none_missing : (tables : Stored) (tree : StatementTree) → is_missing_file (said_of tables tree) ≡ false
none_missing tables (create_table name columns) = refl
none_missing tables (drop_table name) = refl
none_missing tables list_tables = refl
none_missing tables (insert name listed rows) = refl
none_missing tables (update name sets condition) = refl
none_missing tables (delete name condition) = refl
none_missing tables (rebuild name choices) = refl
none_missing tables (select query) = refl
none_missing tables (stats query) = refl
none_missing tables (load name file first) = refl
none_missing tables (save name file) = refl
none_missing tables (open_table name file) = refl

-- what a statement is refused for

not_counted : {P : Type 0} (wanted : Refusal) (n : ℕ) → Refused wanted ≡ Count n → P
not_counted wanted n e = cc

named : (first : Option Refusal) (use_of : FileUse) (name : List ℕ) → unless_refused first use_of ≡ reads name → use_of ≡ reads name
named None use_of name e = e
named (Some refusal) use_of name e = cc

module _ (before : State) (tree : StatementTree) (after : State) where
  abbrev Rose : Type 0
  Rose = after.failures ≡ before.failures + 1

  not_refused : (said : Content) (wanted : Refusal) → of_file wanted ≡ true → (wanted ≡ refusal.UnreadableFile → is_missing_file said ≡ false) → Outcome before said tree (Refused wanted) after → Rose
  not_refused said wanted is there outcome = absurd (no_outcome (store_in before) said wanted is there tree (sym outcome.replies))

  written_by : (use_of : FileUse) → AnswersBy use_of before tree (Refused refusal.UnwritableFile) after → Rose
  written_by no_file outcome = not_refused (said_of before.tables tree) refusal.UnwritableFile refl (λ e. cc) outcome
  written_by (reads name) answers =
      elim answers [ inl by ↦ not_refused by.said refusal.UnwritableFile refl (λ e. cc) by.outcome | inr cannot ↦ cannot.failed.one_more ]
  written_by (writes name) answers =
      elim answers [ inl by ↦ not_counted refusal.UnwritableFile (length by.table.rows) by.says | inr cannot ↦ cannot.failed.one_more ]

  pub written : Answers before tree (Refused refusal.UnwritableFile) after → Rose
  written answers = elim answers [ inl wants ↦ absurd (let says = wants.says in cc) | inr by ↦ written_by (file_use (store_in before) tree) by ]

  module _ (name bytes : List ℕ) (reading : use_in tree ≡ reads name) (filed : file_in before.files name ≡ Some bytes) where
    found_by : (file : List ℕ) → file_use (store_in before) tree ≡ reads file → ByFile before tree file (Refused refusal.UnreadableFile) after → Rose
    found_by file is by =
        let same : file ≡ name = (let one = sym (named (refused_early (store_in before) tree) (use_in tree) file is) ∙ reading in cc) in
        let found = there_is before.files name bytes by.file filed (subst (λ n. HasFile before.files n by.file) same by.there) in
        let says : SaysTo (store_in before) tree bytes by.said = subst (λ f. IsSaid (store_in before) tree f by.said) found by.says in
        not_refused by.said refusal.UnreadableFile refl (λ e. by_length (store_in before) tree bytes by.said (nat_lt file_limit (length bytes)) says) by.outcome

    read_by : (use_of : FileUse) → file_use (store_in before) tree ≡ use_of → AnswersBy use_of before tree (Refused refusal.UnreadableFile) after → Rose
    read_by no_file is outcome = not_refused (said_of before.tables tree) refusal.UnreadableFile refl (λ e. none_missing before.tables tree) outcome
    read_by (reads file) is answers = elim answers [ inl by ↦ found_by file is by | inr cannot ↦ cannot.failed.one_more ]
    read_by (writes file) is answers =
        elim answers [ inl by ↦ not_counted refusal.UnreadableFile (length by.table.rows) by.says | inr cannot ↦ cannot.failed.one_more ]

    pub read : Answers before tree (Refused refusal.UnreadableFile) after → Rose
    read answers = elim answers [ inl wants ↦ absurd (let says = wants.says in cc) | inr by ↦ read_by (file_use (store_in before) tree) refl by ]
