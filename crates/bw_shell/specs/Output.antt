-- The output of a script (SQL-92, direct invocation of SQL) if nothing fails.
use Rattle.std.specs.Prelude.{◌≡◌, ◌≢◌, ℕ, IsSome, List, ◌++◌}
use Rattle.bw_lex.specs.Parts.{AreParts}
use Rattle.bw_lex.specs.declared.script.Part.{Part}
use Rattle.bw_model.specs.ReplyText.{reply_text}
use Rattle.bw_model.specs.declared.refusal.Refusal.TheVariants.{OutOfMemory}
use Rattle.bw_model.specs.declared.reply.Reply.TheVariants.{Refused}
use Rattle.bw_shell.specs.Run.{Session}
use Rattle.bw_shell.specs.States.{State}
use Rattle.bw_shell.specs.declared.reading.ScriptEnd.{ScriptEnd}
use Rattle.bw_shell.specs.declared.running.OnError.{OnError}
use Rattle.bw_shell.specs.declared.running.RunEnd.{RunEnd}
use Rattle.bw_shell.specs.declared.running.RunEnd.TheVariants as ends

-- no line of the bytes reports that memory ran out
abbrev pub NeverOutOfMemory : List ℕ → Type 0
NeverOutOfMemory bytes = (prefix rest : List ℕ) → bytes ≢ prefix ++ reply_text (Refused OutOfMemory) ++ rest

-- A session over the script's parts has this end, these bytes and this final state; the folder's files are known, neither it nor
-- the writer failed, and memory didn't run out.
pub record IsOutput (on_error : OnError) (read : ScriptEnd) (script : List ℕ) (state : State) (end : RunEnd) (bytes : List ℕ) (last : State) : Type 0 where
  pub parts : List Part
  pub are_parts : AreParts script parts
  pub session : Session on_error read script state parts end bytes last
  pub written : end ≢ ends.WriteFault
  pub memory : NeverOutOfMemory bytes
  pub known : IsSome state.files
  pub unfailing : last.failures ≡ state.failures
