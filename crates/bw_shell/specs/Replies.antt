-- Which replies a run wrote: a session, part by part (SQL-92, direct invocation of SQL).
use Rattle.std.specs.Prelude.{◌≡◌, ℕ, true, false, List, [], ◌∷◌, ◌++◌}
use Rattle.std.specs.List.{flat_map, list_any}
use Rattle.bw_lex.specs.declared.script.Part.{Part}
use Rattle.bw_model.specs.ReplyText.{reply_text}
use Rattle.bw_model.specs.declared.refusal.Refusal.{Refusal}
use Rattle.bw_model.specs.declared.reply.Reply.{Reply}
use Rattle.bw_model.specs.declared.reply.Reply.TheVariants.{Refused}
use Rattle.bw_shell.specs.Run.{MayAnswer, is_dropped, stops, text_of}
use Rattle.bw_shell.specs.Script.{IsPrefixOf}
use Rattle.bw_shell.specs.States.{State}
use Rattle.bw_shell.specs.declared.reading.ScriptEnd.{ScriptEnd}
use Rattle.bw_shell.specs.declared.reading.ScriptEnd.TheVariants.{Reached, Fault}
use Rattle.bw_shell.specs.declared.running.OnError.{OnError}
use Rattle.bw_shell.specs.declared.running.OnError.TheVariants.{Stop}
use Rattle.bw_shell.specs.declared.running.RunEnd.{RunEnd}
use Rattle.bw_shell.specs.declared.running.RunEnd.TheVariants as ends

-- From this state, these parts may have these replies, in order, and leave that state.
pub data Answered : List ℕ → State → List Part → List Reply → State → Type 0 where
  none_left : {script : List ℕ} {state : State} → Answered script state [] [] state
  and_then : {script : List ℕ} {state mid after : State} {part : Part} {parts : List Part} {reply : Reply} {replies : List Reply}
      → MayAnswer state part.is_closed (text_of script part) reply mid → Answered script mid parts replies after → Answered script state (part ∷ parts) (reply ∷ replies) after

-- nothing is left, or only a rest that is dropped
abbrev pub IsDroppedRest : ScriptEnd → List Part → Type 0
IsDroppedRest read [] = Unit {0}
IsDroppedRest read (part ∷ parts) = (is_dropped read part ≡ true) × (parts ≡ [])

-- the last reply is the first error
abbrev pub IsLastAnError : List Reply → Type 0
IsLastAnError replies = (earlier : List Reply) × (refusal : Refusal) × (replies ≡ earlier ++ Refused refusal ∷ []) × (list_any (stops Stop) earlier ≡ false)

-- these bytes are a prefix of the text of a reply to the next part, and that part leaves that state
abbrev pub BeginsNext : List ℕ → State → List Part → List ℕ → State → Type 0
BeginsNext script state [] begun last = ⊥
BeginsNext script state (part ∷ parts) begun last = (reply : Reply) × MayAnswer state part.is_closed (text_of script part) reply last × IsPrefixOf begun (reply_text reply)

-- by the end of a run: which parts are left, what was written after the replies, and the final state
abbrev pub LeavesOff : OnError → ScriptEnd → List ℕ → State → List Part → List Reply → List ℕ → RunEnd → State → Type 0
LeavesOff on_error read script state left replies begun ends.Done last = (last ≡ state) × (read ≡ Reached) × (left ≡ []) × (begun ≡ []) × (list_any (stops on_error) replies ≡ false)
LeavesOff on_error read script state left replies begun ends.ReadFault last = (last ≡ state) × (read ≡ Fault) × IsDroppedRest read left × (begun ≡ []) × (list_any (stops on_error) replies ≡ false)
LeavesOff on_error read script state left replies begun ends.Stopped last = (last ≡ state) × (on_error ≡ Stop) × (begun ≡ []) × IsLastAnError replies
LeavesOff on_error read script state left replies begun ends.WriteFault last = BeginsNext script state left begun last × (list_any (stops on_error) replies ≡ false)
LeavesOff on_error read script state left replies begun ends.Memory last = ⊥

-- The first parts were answered in order, and what was written is their replies and, if the writer failed, a prefix of the next.
pub record WroteReplies (on_error : OnError) (read : ScriptEnd) (script : List ℕ) (state : State) (parts : List Part) (end : RunEnd) (bytes : List ℕ) (last : State) : Type 0 where
  pub answered : List Part
  pub left : List Part
  pub split : parts ≡ answered ++ left
  pub kept : list_any (is_dropped read) answered ≡ false
  pub replies : List Reply
  pub after : State
  pub are_answered : Answered script state answered replies after
  pub begun : List ℕ
  pub written : bytes ≡ flat_map reply_text replies ++ begun
  pub leaves_off : LeavesOff on_error read script after left replies begun end last
