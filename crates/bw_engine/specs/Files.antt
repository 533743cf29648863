-- What a statement replies given its file, and what it returns to be saved (this product's own).
use Rattle.std.specs.Prelude.{◌≡◌, ◌⊎◌, ◌∷◌, [], ℕ, List, length, nat_lt, Option, Some, None, Result, Ok, Err, MatchOption, MatchResult}
use Rattle.std.specs.Bool.{MatchBool}
use Rattle.std.specs.Borrow.{Bor}
use Rattle.std.specs.Result.{IsOkAnd}
use Rattle.bw_code.specs.declared.kind.ColumnType.{ColumnType}
use Rattle.bw_csvload.specs.Rows.{rows_of_file}
use Rattle.bw_sql.specs.Tree.{StatementTree, save}
use Rattle.bw_sql.specs.declared.tree.FirstRecord.{FirstRecord}
use Rattle.bw_file.specs.Table as filed
use Rattle.bw_table.specs.Opening.{rows_across}
use Rattle.bw_model.specs.Contents.{SaysTo, first_of, is_missing_file, is_no_table, is_too_large, lines_or_fault}
use Rattle.bw_model.specs.FileUse.{FileUse, file_read, file_use, writes}
use Rattle.bw_file.specs.declared.version.Version.TheVariants.{Second}
use Rattle.bw_model.specs.Filing.{HoldsBy, file_limit}
use Rattle.bw_model.specs.Refusals.{Tests, fault_test, first_that_holds, refused_early}
use Rattle.bw_model.specs.Step.{Step, WantsMemory}
use Rattle.bw_model.specs.Store.{Store, Table, table_of}
use Rattle.bw_model.specs.declared.content.Content.{Content}
use Rattle.bw_model.specs.declared.content.Content.TheVariants.{Missing, Nothing, TooLarge}
use Rattle.bw_model.specs.declared.refusal.Refusal.{Refusal}
use Rattle.bw_model.specs.declared.refusal.Refusal.TheVariants.{FileTooLarge, NotTableFile, OutOfMemory, UnreadableFile}
use Rattle.bw_model.specs.declared.reply.Reply.{Reply}
use Rattle.bw_model.specs.declared.reply.Reply.TheVariants.{Refused}
use Rattle.bw_engine.specs.Counting.{said_of}
use Rattle.bw_engine.specs.Outcomes.{CarriesOut}
use Rattle.bw_engine.specs.StoredChanges.{LeavesStored}
use Rattle.bw_engine.specs.Stores.{Stored, store_of}
use Rattle.bw_engine.specs.declared.file_answer.FileAnswer.{FileAnswer}
use Rattle.bw_engine.specs.declared.file_answer.FileAnswer.TheVariants as file
use Rattle.bw_engine.specs.declared.outcome.Outcome.{Outcome}
use Rattle.bw_engine.specs.declared.outcome.Outcome.TheVariants as outcome
use Rattle.bw_engine.specs.declared.outcome.Saving.{Saving}

-- By the file answer: P of the file's content, which `says` relates to its bytes; or W, where there was no memory for the bytes
-- or for their content.
abbrev pub IsAnswered : FileAnswer → (List ℕ → Content → Type 0) → (Content → Type 0) → Type 0 → Type 0
IsAnswered file.NotAsked says P W = P Missing
IsAnswered file.Unreadable says P W = P Missing
IsAnswered file.TooLarge says P W = P TooLarge
IsAnswered file.NoMemory says P W = W
IsAnswered (file.Bytes bytes) says P W = W ⊎ ((said : Content) × says bytes.now said × P said)

-- the reply and the store after a statement, by the name of the file that it reads, if any
abbrev pub RepliesBy : Option (List ℕ) → Stored → StatementTree → FileAnswer → Reply → Store → Type 0
RepliesBy None tables statement answer reply after = Step (store_of tables) (said_of tables statement) statement reply after
RepliesBy (Some name) tables statement answer reply after =
    let store = store_of tables in
    IsAnswered answer (SaysTo store statement) (λ said. Step store said statement reply after) (WantsMemory store statement reply after)

-- the reply and the store after a statement, given the answer for its file
abbrev pub Replies : Stored → StatementTree → FileAnswer → Reply → Store → Type 0
Replies tables statement answer reply after = RepliesBy (file_read (file_use (store_of tables) statement)) tables statement answer reply after

-- a SAVE that isn't refused returns its bytes, unless it runs out of memory
abbrev pub IsNoSave : FileUse → Reply → Type 0
IsNoSave (writes name) reply = reply ≡ Refused OutOfMemory
IsNoSave _ reply = Unit {0}

-- what a SAVE returns: the file's name, the bytes that hold the table by version 2 of the format, and its number of rows
pub record Saves (store : Store) (statement : StatementTree) (saving : Saving) (after : Store) : Type 0 where
  pub name : List ℕ
  pub table : Table
  pub asks : statement ≡ save name saving.file
  pub there : table_of store name ≡ Some table
  pub accepted : refused_early store statement ≡ None
  pub holds : HoldsBy Second saving.bytes.items table
  pub rows : saving.rows ≡ length table.rows
  pub stays : after ≡ store

abbrev pub Executes : Stored → StatementTree → FileAnswer → Outcome → Store → Type 0
Executes tables statement answer (outcome.Reply reply) after = Replies tables statement answer reply after × IsNoSave (file_use (store_of tables) statement) reply
Executes tables statement answer (outcome.Save saving) after = Saves (store_of tables) statement saving after

-- P of the value, where no test holds; else out of memory or the first test that holds
abbrev pub AnswersFile : {T : Type 0} → Tests → Result T Refusal → (T → Type 0) → Type 0
AnswersFile tests result P = MatchResult result (λ x. (first_that_holds tests ≡ None) × P x) (λ e. (e ≡ OutOfMemory) ⊎ (first_that_holds tests ≡ Some e))

-- the content of bytes, which is `TooLarge` above the limit
abbrev pub Within : (List ℕ → Content → Type 0) → List ℕ → Content → Type 0
Within says bytes said = MatchBool (nat_lt file_limit (length bytes)) (said ≡ TooLarge) (says bytes said)

-- the content of bytes read as a CSV file for columns of these types
abbrev pub SaysLines : List ColumnType → FirstRecord → List ℕ → Content → Type 0
SaysLines types first bytes said = said ≡ lines_or_fault (rows_of_file types (first_of first) bytes)

-- the file's bytes, or why there are none
abbrev pub IsBytesOf : FileAnswer → Result (Bor (List ℕ)) Refusal → Type 0
IsBytesOf (file.Bytes bytes) result = MatchBool (nat_lt file_limit (length bytes.now)) (result ≡ Err FileTooLarge) (IsOkAnd result (λ given. given.now ≡ bytes.now))
IsBytesOf file.TooLarge result = result ≡ Err FileTooLarge
IsBytesOf file.NotAsked result = result ≡ Err UnreadableFile
IsBytesOf file.Unreadable result = result ≡ Err UnreadableFile
IsBytesOf file.NoMemory result = result ≡ Err OutOfMemory

-- the tests of the content of a CSV file, and of a table file
abbrev pub lines_tests : Content → Tests
lines_tests said = (UnreadableFile, is_missing_file said) ∷ (FileTooLarge, is_too_large said) ∷ fault_test said ∷ []

abbrev pub table_tests : Content → Tests
table_tests said = (UnreadableFile, is_missing_file said) ∷ (FileTooLarge, is_too_large said) ∷ (NotTableFile, is_no_table said) ∷ []

-- the rows of a table that a file holds by columns
abbrev pub unfiled : filed.Table → Table
unfiled parts = record { headers = parts.headers; rows = rows_across parts.rows parts.columns }

-- a statement that reads a file is refused for a reason that doesn't depend on the file, or carried out with the file answer
abbrev pub CarriesFile : Store → StatementTree → FileAnswer → Result Reply Refusal → Store → Type 0
CarriesFile store statement answer result after =
    MatchOption (refused_early store statement)
    (IsAnswered answer (SaysTo store statement) (λ said. CarriesOut store said statement result after) (result ≡ Err OutOfMemory))
    (λ refusal. result ≡ Err refusal)

-- what a SAVE returns, or why it fails
abbrev pub SavesOr : Store → StatementTree → Result Saving Refusal → Store → Type 0
SavesOr store statement result after =
    MatchResult result (λ saving. Saves store statement saving after)
    (λ e. ((refused_early store statement ≡ None) × (e ≡ OutOfMemory)) ⊎ (refused_early store statement ≡ Some e))

-- the outcome of a SAVE
abbrev pub saving_of : Result Saving Refusal → Outcome
saving_of (Ok saving) = outcome.Save saving
saving_of (Err e) = outcome.Reply (Refused e)

-- the slots and encodings after a statement; a SAVE that returns bytes changes nothing
abbrev pub LeavesBy : Stored → StatementTree → Outcome → Stored → Type 0
LeavesBy tables statement (outcome.Reply reply) after = LeavesStored tables statement reply after
LeavesBy tables statement (outcome.Save saving) after = after ≡ tables
