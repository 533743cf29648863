-- The replies that a statement may get, with a folder for its file (this product's own).
use Rattle.std.specs.Prelude.{◌≡◌, ◌⊎◌, ℕ, List, Option, Some, None, length}
use Rattle.bw_sql.specs.Tree.{StatementTree, save}
use Rattle.bw_model.specs.Contents.{IsSaid}
use Rattle.bw_model.specs.FileUse.{FileUse, file_use, no_file, reads, writes}
use Rattle.bw_file.specs.declared.version.Version.TheVariants.{Second}
use Rattle.bw_model.specs.Filing.{HoldsBy}
use Rattle.bw_model.specs.Refusals.{refused_early}
use Rattle.bw_model.specs.Step.{outcome_of}
use Rattle.bw_model.specs.Store.{Table, table_of}
use Rattle.bw_model.specs.declared.content.Content.{Content}
use Rattle.bw_model.specs.declared.refusal.Refusal.TheVariants.{OutOfMemory, UnreadableFile, UnwritableFile}
use Rattle.bw_model.specs.declared.reply.Reply.{Reply}
use Rattle.bw_model.specs.declared.reply.Reply.TheVariants.{Count, Refused}
use Rattle.bw_engine.specs.Counting.{said_of}
use Rattle.bw_engine.specs.StoredChanges.{LeavesStored}
use Rattle.bw_shell.specs.States.{Failed, HasFile, KeepsFiles, KeepsOthers, Leaves, SetsFile, State, Stays, store_in}

-- memory runs out: nothing changes
pub record RunsOutOfMemory (before : State) (statement : StatementTree) (reply : Reply) (after : State) : Type 0 where
  pub accepted : refused_early (store_in before) statement ≡ None
  pub says : reply ≡ Refused OutOfMemory
  pub stays : Stays before after

-- the outcome, given this content: reply and store are the model's, slots and encodings those that the statement leaves
pub record Outcome (before : State) (said : Content) (statement : StatementTree) (reply : Reply) (after : State) : Type 0 where
  pub replies : reply ≡ (outcome_of (store_in before) said statement).0
  pub leaves : Leaves before (outcome_of (store_in before) said statement).1 after
  pub stored : LeavesStored before.tables statement reply after.tables

-- the outcome, given the folder's file
pub record ByFile (before : State) (statement : StatementTree) (name : List ℕ) (reply : Reply) (after : State) : Type 0 where
  pub file : Option (List ℕ)
  pub there : HasFile before.files name file
  pub said : Content
  pub says : IsSaid (store_in before) statement file said
  pub outcome : Outcome before said statement reply after

-- the folder failed at reading
pub record CannotRead (before : State) (reply : Reply) (after : State) : Type 0 where
  pub says : reply ≡ Refused UnreadableFile
  pub failed : Failed before after
  pub files_stay : KeepsFiles before.files after.files

-- the file was created or replaced with bytes that hold the table
pub record IsSaved (before : State) (statement : StatementTree) (file : List ℕ) (reply : Reply) (after : State) : Type 0 where
  pub name : List ℕ
  pub asks : statement ≡ save name file
  pub table : Table
  pub there : table_of (store_in before) name ≡ Some table
  pub bytes : List ℕ
  pub holds : HoldsBy Second bytes table
  pub says : reply ≡ Count (length table.rows)
  pub tables_stay : after.tables ≡ before.tables
  pub file_set : SetsFile file bytes before.files after.files
  pub failures_stay : after.failures ≡ before.failures

-- the folder failed at writing
pub record CannotWrite (before : State) (file : List ℕ) (reply : Reply) (after : State) : Type 0 where
  pub says : reply ≡ Refused UnwritableFile
  pub failed : Failed before after
  pub others_stay : KeepsOthers file before.files after.files

abbrev pub AnswersBy : FileUse → State → StatementTree → Reply → State → Type 0
AnswersBy no_file before statement reply after = Outcome before (said_of before.tables statement) statement reply after
AnswersBy (reads file) before statement reply after = ByFile before statement file reply after ⊎ CannotRead before reply after
AnswersBy (writes file) before statement reply after = IsSaved before statement file reply after ⊎ CannotWrite before file reply after

-- a statement's answer: its outcome, or that memory ran out or the folder failed
abbrev pub Answers : State → StatementTree → Reply → State → Type 0
Answers before statement reply after = RunsOutOfMemory before statement reply after ⊎ AnswersBy (file_use (store_in before) statement) before statement reply after
