-- A run of a script (SQL-92: direct invocation of SQL): its parts are answered in order over the same tables, and the replies are written.
use Rattle.std.specs.Prelude.{◌≡◌, ◌<◌, ◌≤◌, ◌⊎◌, ℕ, Bool, true, false, not, List, [], ◌∷◌, ◌++◌, length, map, slice_range, Option}
use Rattle.std.specs.Io.KnownBytes.{Appends, Keeps}
use Rattle.bw_lex.specs.Parts.{AreParts}
use Rattle.bw_lex.specs.declared.fault.SqlFault.{SqlFault}
use Rattle.bw_lex.specs.declared.script.Part.{Part}
use Rattle.bw_split.specs.Splitting.{PartText, text_of_part}
use Rattle.bw_sql.specs.Statements.{IsStatementFault, Says, longest_statement}
use Rattle.bw_sql.specs.Tree.{StatementTree}
use Rattle.bw_model.specs.Refusals.{refusal_of_fault}
use Rattle.bw_model.specs.ReplyText.{reply_text}
use Rattle.bw_model.specs.declared.refusal.Refusal.TheVariants.{StatementTooLong, Syntax}
use Rattle.bw_model.specs.declared.reply.Reply.{Reply}
use Rattle.bw_model.specs.declared.reply.Reply.TheVariants.{Refused}
use Rattle.bw_engine.specs.Stores.{Stored}
use Rattle.bw_shell.specs.Answers.{Answers}
use Rattle.bw_shell.specs.States.{FolderState, State, with_tables}
use Rattle.bw_shell.specs.Script.{IsPrefixOf, IsRead, longest_script}
use Rattle.bw_shell.specs.declared.reading.ScriptEnd.{ScriptEnd}
use Rattle.bw_shell.specs.declared.reading.ScriptEnd.TheVariants.{Reached, Fault}
use Rattle.bw_shell.specs.declared.running.OnError.{OnError}
use Rattle.bw_shell.specs.declared.running.OnError.TheVariants.{Stop}
use Rattle.bw_shell.specs.declared.running.RunEnd.{RunEnd}
use Rattle.bw_shell.specs.declared.running.RunEnd.TheVariants as ends

-- From this state, a part may have this reply, and leaves that state.
pub data MayAnswer : State → Bool → List ℕ → Reply → State → Type 0 where
  too_long : {state : State} {closed : Bool} {text : List ℕ} → longest_statement < length text → MayAnswer state closed text (Refused StatementTooLong) state
  unclosed : {state : State} {text : List ℕ} → length text ≤ longest_statement → MayAnswer state false text (Refused Syntax) state
  no_statement : {state : State} {text : List ℕ} (fault : SqlFault) → IsStatementFault fault text → MayAnswer state true text (Refused (refusal_of_fault fault)) state
  statement : {state after : State} {text : List ℕ} {reply : Reply} (tree : StatementTree) → Says text tree → Answers state tree reply after → MayAnswer state true text reply after

-- the bytes of a part, without the `;`
abbrev pub text_of : List ℕ → Part → List ℕ
text_of script part = slice_range script part.span.start part.span.end

-- whether the run stops after this reply
abbrev pub stops : OnError → Reply → Bool
stops Stop (Refused refusal) = true
stops _ _ = false

-- whether the reading of the script failed, so that a rest that no `;` closes is dropped
abbrev pub drops : ScriptEnd → Bool → Bool
drops Fault closed = not closed
drops Reached closed = false

abbrev pub is_dropped : ScriptEnd → Part → Bool
is_dropped read part = drops read part.is_closed

-- how a run ends if no part is left
abbrev pub last_end : ScriptEnd → RunEnd
last_end Reached = ends.Done
last_end Fault = ends.ReadFault

abbrev pub IsOver : RunEnd → RunEnd → List ℕ → State → State → Type 0
IsOver wanted end bytes state last = (end ≡ wanted) × (bytes ≡ []) × (last ≡ state)

-- one of two facts, by a test
abbrev pub Either : Bool → Type 0 → Type 0 → Type 0
Either true a b = a
Either false a b = b

-- From this state, a run over parts with these bytes may have this end, write these bytes and leave that state. Each reply is
-- written whole, or a prefix of it if the writer fails (all of it, if only the flush after it fails), and nothing follows.
abbrev pub SessionOver : OnError → ScriptEnd → State → List PartText → RunEnd → List ℕ → State → Type 0
SessionOver on_error read state [] end bytes last = IsOver (last_end read) end bytes state last
SessionOver on_error read state (part ∷ parts) end bytes last =
    Either (drops read part.is_closed) (IsOver (last_end read) end bytes state last)
    ((reply : Reply) × (after : State) × MayAnswer state part.is_closed part.text reply after
    × (((end ≡ ends.WriteFault) × IsPrefixOf bytes (reply_text reply) × (last ≡ after))
    ⊎ ((rest : List ℕ) × (bytes ≡ reply_text reply ++ rest)
    × Either (stops on_error reply) (IsOver ends.Stopped end rest after last) (SessionOver on_error read after parts end rest last))))

-- the same over the parts of a script
abbrev pub Session : OnError → ScriptEnd → List ℕ → State → List Part → RunEnd → List ℕ → State → Type 0
Session on_error read script state parts end bytes last = SessionOver on_error read state (map (text_of_part script) parts) end bytes last

-- from this state, the parts give a session with this end and final state, and its bytes were written
abbrev pub HasRun : OnError → ScriptEnd → List ℕ → List Part → State → Option (List ℕ) → Option (List ℕ) → RunEnd → State → Type 0
HasRun on_error read script parts state old new end last =
    (bytes : List ℕ) × Session on_error read script state parts end bytes last × Appends old new bytes

-- A run that starts without tables: what the reader gave was read, its parts are a session, its bytes were written, and the
-- folder is as its statements leave it.
pub record IsRun (on_error : OnError) (given left old new : Option (List ℕ)) (before after : FolderState) (end : RunEnd) : Type 0 where
  pub script : List ℕ
  pub read : ScriptEnd
  pub is_read : IsRead given left script read
  pub fits : length script ≤ longest_script
  pub parts : List Part
  pub are_parts : AreParts script parts
  pub tables : Stored
  pub has_run : HasRun on_error read script parts (with_tables [] before) old new end (with_tables tables after)

-- if memory runs out at the start, nothing is read or written and no file is touched
abbrev pub RunsTo : OnError → (given left old new : Option (List ℕ)) → (before after : FolderState) → RunEnd → Type 0
RunsTo on_error given left old new before after end = ((end ≡ ends.Memory) × Keeps given left × Keeps old new × (after ≡ before)) ⊎ IsRun on_error given left old new before after end
