-- The result of writing a file (this product's own).
use Rattle.std.specs.Prelude.{◌≡◌, ◌⊎◌, ◌+◌, ℕ, List}
use Rattle.bw_model.specs.declared.refusal.Refusal.TheVariants.{OutOfMemory, UnwritableFile}
use Rattle.bw_model.specs.declared.reply.Reply.{Reply}
use Rattle.bw_model.specs.declared.reply.Reply.TheVariants.{Count, Refused}
use Rattle.bw_shell.specs.States.{FolderState, KeepsFiles, KeepsOthers, SetsFile}

-- the file has these bytes
pub record IsMade (file bytes : List ℕ) (rows : ℕ) (before after : FolderState) (reply : Reply) : Type 0 where
  pub says : reply ≡ Count rows
  pub file_set : SetsFile file bytes before.files after.files
  pub failures_stay : after.failures ≡ before.failures

-- memory ran out
pub record WritingRunsOutOfMemory (before after : FolderState) (reply : Reply) : Type 0 where
  pub says : reply ≡ Refused OutOfMemory
  pub files_stay : KeepsFiles before.files after.files
  pub failures_stay : after.failures ≡ before.failures

-- the folder failed
pub record IsBroken (file : List ℕ) (before after : FolderState) (reply : Reply) : Type 0 where
  pub says : reply ≡ Refused UnwritableFile
  pub others_stay : KeepsOthers file before.files after.files
  pub one_more : after.failures ≡ before.failures + 1

abbrev pub WritesOut : (file bytes : List ℕ) → (rows : ℕ) → FolderState → FolderState → Reply → Type 0
WritesOut file bytes rows before after reply = IsMade file bytes rows before after reply ⊎ (WritingRunsOutOfMemory before after reply ⊎ IsBroken file before after reply)
