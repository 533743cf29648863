-- A statement that puts a file's rows into a table, from the table to the store.
use Rattle.std.proofs.Common.{◌≡◌, ◌∙◌, inl, inr, ℕ, List, [], length, Option, None, Some, Result, Ok, Err, option_map, MatchOption, refl, sym, ap, subst}
use Rattle.std.specs.Map.{lookup, set_value}
use Rattle.std.specs.Str.{bytes_eq}
use Rattle.bw_code.specs.Types.{types_of}
use Rattle.bw_sql.specs.Tree.{StatementTree, load}
use Rattle.bw_sql.specs.declared.tree.FirstRecord.{FirstRecord}
use Rattle.bw_model.specs.Contents.{SaysTo, lines_in, types_in}
use Rattle.bw_model.specs.Refusals.{first_that_holds, load_tests, over, refused_early}
use Rattle.bw_model.specs.Step.{with_lines}
use Rattle.bw_model.specs.Store.{Store, table_of}
use Rattle.bw_model.specs.declared.content.Content.{Content}
use Rattle.bw_model.specs.declared.content.Content.TheVariants.{Missing, TooLarge}
use Rattle.bw_model.specs.declared.refusal.Refusal.{Refusal}
use Rattle.bw_model.specs.declared.refusal.Refusal.TheVariants.{NoSuchTable, OutOfMemory}
use Rattle.bw_model.specs.declared.reply.Reply.{Reply}
use Rattle.bw_model.specs.declared.reply.Reply.TheVariants.{Count}
use Rattle.bw_engine.specs.Files.{AnswersFile, CarriesFile, IsAnswered, SaysLines, Within}
use Rattle.bw_engine.specs.Outcomes.{CarriesOut}
use Rattle.bw_engine.specs.Stores.{Stored, StoredTable, store_of, table_in}
use Rattle.bw_engine.specs.declared.file_answer.FileAnswer.{FileAnswer}
use Rattle.bw_engine.specs.declared.file_answer.FileAnswer.TheVariants as file
use Rattle.bw_engine.proofs.Steps.{changes_table, found_in}

-- by the same file another fact of what it says
answered_too : (answer : FileAnswer) (says reads : List ℕ → Content → Type 0) (P Q : Content → Type 0) (W : Type 0) → ((bytes : List ℕ) (said : Content) → says bytes said → reads bytes said) → ((said : Content) → P said → Q said)
    → IsAnswered answer says P W → IsAnswered answer reads Q W
answered_too file.NotAsked says reads P Q W bytes_so so h = so Missing h
answered_too file.Unreadable says reads P Q W bytes_so so h = so Missing h
answered_too file.TooLarge says reads P Q W bytes_so so h = so TooLarge h
answered_too file.NoMemory says reads P Q W bytes_so so h = h
answered_too (file.Bytes bytes) says reads P Q W bytes_so so h = elim h [ inl w ↦ inl w | inr p ↦ inr (p.0, bytes_so bytes.now p.0 p.1, so p.0 p.2) ]

-- by the reason to refuse it that needs no file
by_early : (store : Store) (statement : StatementTree) (answer : FileAnswer) (r : Result Reply Refusal) (after : Store) (early : Option Refusal) → refused_early store statement ≡ early
    → MatchOption early (IsAnswered answer (SaysTo store statement) (λ said. CarriesOut store said statement r after) (r ≡ Err OutOfMemory)) (λ refusal. r ≡ Err refusal)
    → CarriesFile store statement answer r after
by_early store statement answer r after early is h =
    subst (λ o. MatchOption o (IsAnswered answer (SaysTo store statement) (λ said. CarriesOut store said statement r after) (r ≡ Err OutOfMemory)) (λ refusal. r ≡ Err refusal)) (sym is) h

-- what a table answers to a file's rows
abbrev pub TakesLines : StoredTable → StoredTable → Result Reply Refusal → Content → Type 0
TakesLines old new r said = AnswersFile (load_tests said (table_in old)) r (λ reply. (reply ≡ Count (length (lines_in said))) × (table_in new ≡ with_lines (lines_in said) (table_in old)))

module _ (tables : Stored) (name file_name : List ℕ) (first : FirstRecord) where
  module _ (table new : StoredTable) (there : lookup (bytes_eq name) tables ≡ Some table) (after : Stored) (is : after ≡ set_value (bytes_eq name) tables new) where
    is_there : table_of (store_of tables) name ≡ Some (table_in table)
    is_there = found_in tables name ∙ ap (option_map table_in) there

    accepted : refused_early (store_of tables) (load name file_name first) ≡ None
    accepted = ap (λ o. first_that_holds (over o (λ t. []))) is_there

    says_lines : (bytes : List ℕ) (said : Content) → Within (SaysLines (types_of table.headers) first) bytes said → SaysTo (store_of tables) (load name file_name first) bytes said
    says_lines bytes said h =
        subst (λ types. Within (SaysLines types first) bytes said) (sym (ap types_in is_there)) h

    carries_lines : (said : Content) (r : Result Reply Refusal) → TakesLines table new r said → CarriesOut (store_of tables) said (load name file_name first) r (store_of after)
    carries_lines said (Ok reply) h = changes_table tables name table there new after is (load_tests said) (λ t. Count (length (lines_in said))) (with_lines (lines_in said)) (Ok reply) h
    carries_lines said (Err e) h = elim h [ inl p ↦ inl (accepted, p) | inr p ↦ inr (ap (λ o. first_that_holds (over o (load_tests said))) is_there ∙ p) ]

    pub loads_table : (answer : FileAnswer) (r : Result Reply Refusal) → IsAnswered answer (Within (SaysLines (types_of table.headers) first)) (TakesLines table new r) (r ≡ Err OutOfMemory) → CarriesFile (store_of tables) (load name file_name first) answer r (store_of after)
    loads_table answer r h =
        by_early (store_of tables) (load name file_name first) answer r (store_of after) None accepted
        (answered_too answer (Within (SaysLines (types_of table.headers) first)) (SaysTo (store_of tables) (load name file_name first)) (TakesLines table new r) (λ said. CarriesOut (store_of tables) said (load name file_name first) r (store_of after))
        (r ≡ Err OutOfMemory) says_lines (λ said. carries_lines said r) h)

  -- where there is no such table
  pub loads_none : (answer : FileAnswer) (after : Stored) → lookup (bytes_eq name) tables ≡ None → CarriesFile (store_of tables) (load name file_name first) answer (Err NoSuchTable) (store_of after)
  loads_none answer after absent =
      by_early (store_of tables) (load name file_name first) answer (Err NoSuchTable) (store_of after) (Some NoSuchTable)
      (ap (λ o. first_that_holds (over o (λ t. []))) (found_in tables name ∙ ap (option_map table_in) absent)) refl
