-- The result of reading the file that a statement wants (this product's own).
use Rattle.std.specs.Prelude.{◌≡◌, ℕ, List, None, Option, Some, Result}
use Rattle.std.specs.Global.{Vec}
use Rattle.bw_sql.specs.Tree.{StatementTree}
use Rattle.bw_model.specs.Filing.{file_limit}
use Rattle.bw_model.specs.Store.{Store}
use Rattle.bw_model.specs.declared.refusal.Refusal.TheVariants.{OutOfMemory, UnreadableFile}
use Rattle.bw_model.specs.declared.reply.Reply.{Reply}
use Rattle.bw_model.specs.declared.reply.Reply.TheVariants.{Refused}
use Rattle.bw_engine.specs.Files.{Replies}
use Rattle.bw_engine.specs.Stores.{Stored, store_of}
use Rattle.bw_engine.specs.declared.file_answer.FileAnswer.TheVariants as file
use Rattle.bw_shell.specs.Folders.{Reads, failures_after}
use Rattle.bw_shell.specs.States.{FolderState}
use Rattle.bw_shell.specs.declared.folders.FolderFault.{FolderFault}
use Rattle.bw_shell.specs.declared.folders.FolderFault.TheVariants.{Failed, Memory, Missing, TooLarge}

-- a file was read
pub record IsRead (name : List ℕ) (before after : FolderState) (read : Result (Vec ℕ) FolderFault) : Type 0 where
  pub failures : after.failures ≡ failures_after read before.failures
  pub files : Reads file_limit name before.files after.files read

-- if a file is wanted, it was read; else the folder wasn't used
abbrev pub IsReadFor : Option (List ℕ) → FolderState → FolderState → Option (Result (Vec ℕ) FolderFault) → Type 0
IsReadFor None before after None = after ≡ before
IsReadFor None before after (Some read) = ⊥
IsReadFor (Some name) before after None = ⊥
IsReadFor (Some name) before after (Some read) = IsRead name before after read

-- the reply if the file couldn't be read
abbrev pub AnswersFault : FolderFault → Stored → StatementTree → Reply → Store → Type 0
AnswersFault Missing tables statement reply after = Replies tables statement file.Unreadable reply after
AnswersFault TooLarge tables statement reply after = Replies tables statement file.TooLarge reply after
AnswersFault Failed tables statement reply after = (reply ≡ Refused UnreadableFile) × (after ≡ store_of tables)
AnswersFault Memory tables statement reply after = (reply ≡ Refused OutOfMemory) × (after ≡ store_of tables)
