-- A run that ended before all that was read of its script is a run of every longer script.
use Rattle.std.proofs.Common.{◌≡◌, ◌≢◌, ◌⊎◌, ℕ, Bool, true, false, List, [], ◌∷◌, ◌++◌, if◌then◌else◌, sym, subst, inl, inr}
use Rattle.bw_lex.specs.Parts.{AreParts}
use Rattle.bw_lex.specs.declared.script.Part.{Part}
use Rattle.bw_split.specs.Splitting.{PartText, part_text, cuts, is_blank_part, texts_from}
use Rattle.bw_split.proofs.PartTexts.{parts_given}
use Rattle.bw_model.specs.ReplyText.{reply_text}
use Rattle.bw_model.specs.declared.reply.Reply.{Reply}
use Rattle.bw_shell.specs.Run.{Either, IsOver, MayAnswer, Session, SessionOver, stops}
use Rattle.bw_shell.specs.Script.{IsPrefixOf}
use Rattle.bw_shell.specs.States.{State}
use Rattle.bw_shell.specs.declared.reading.ScriptEnd.{ScriptEnd}
use Rattle.bw_shell.specs.declared.reading.ScriptEnd.TheVariants.{Fault, Reached}
use Rattle.bw_shell.specs.declared.running.OnError.{OnError}
use Rattle.bw_shell.specs.declared.running.RunEnd.{RunEnd}
use Rattle.bw_shell.specs.declared.running.RunEnd.TheVariants as ends

-- a part that a `;` closes is answered, however the script was read
module _ (on_error : OnError) (end : RunEnd) (state last : State) (text : List ℕ) (parts longer : List PartText) where
  abbrev IsAnswered : ScriptEnd → List PartText → List ℕ → Type 0
  IsAnswered read behind bytes =
      (reply : Reply) × (after : State) × MayAnswer state true text reply after
      × (((end ≡ ends.WriteFault) × IsPrefixOf bytes (reply_text reply) × (last ≡ after))
      ⊎ ((rest : List ℕ) × (bytes ≡ reply_text reply ++ rest) × Either (stops on_error reply) (IsOver ends.Stopped end rest after last) (SessionOver on_error read after behind end rest last)))

  module _ (read : ScriptEnd) (goes_on : (after : State) (rest : List ℕ) → SessionOver on_error Fault after parts end rest last → SessionOver on_error read after longer end rest last) where
    then_so : (after : State) (rest : List ℕ) (stop : Bool) → Either stop (IsOver ends.Stopped end rest after last) (SessionOver on_error Fault after parts end rest last)
        → Either stop (IsOver ends.Stopped end rest after last) (SessionOver on_error read after longer end rest last)
    then_so after rest true over = over
    then_so after rest false session = goes_on after rest session

    answered : (bytes : List ℕ) → IsAnswered Fault parts bytes → IsAnswered read longer bytes
    answered bytes a = (
      a.0,
      a.1,
      a.2,
      elim a.3 [
        | inl failed ↦ inl failed
        | inr more ↦ inr (more.0, more.1, then_so a.1 more.0 (stops on_error a.0) more.2)
      ],
    )

  closed_part : (read : ScriptEnd) → ((after : State) (rest : List ℕ) → SessionOver on_error Fault after parts end rest last → SessionOver on_error read after longer end rest last)
      → (bytes : List ℕ) → SessionOver on_error Fault state (part_text text true ∷ parts) end bytes last → SessionOver on_error read state (part_text text true ∷ longer) end bytes last
  closed_part Reached goes_on bytes session = answered Reached goes_on bytes session
  closed_part Fault goes_on bytes session = answered Fault goes_on bytes session

module _ (on_error : OnError) (read : ScriptEnd) (end : RunEnd) (early : end ≢ ends.ReadFault) (more : List ℕ) (last : State) where
  -- no session ends early at the rest that no `;` closes, which is dropped
  at_rest : {P : Type 0} (part bytes : List ℕ) (state : State) (blank : Bool) → SessionOver on_error Fault state (if blank then [] else part_text part false ∷ []) end bytes last → P
  at_rest part bytes state true session = absurd (early session.0)
  at_rest part bytes state false session = absurd (early session.0)

  abbrev GoesOn : List ℕ → List ℕ → Type 0
  GoesOn part script = (state : State) (bytes : List ℕ) → SessionOver on_error Fault state (texts_from part script) end bytes last → SessionOver on_error read state (texts_from part (script ++ more)) end bytes last

  at_byte : (part script : List ℕ) (b : ℕ) (cut blank : Bool) (state : State) (bytes : List ℕ) → GoesOn [] script → GoesOn (part ++ b ∷ []) script
      → SessionOver on_error Fault state (if cut then (if blank then texts_from [] script else part_text part true ∷ texts_from [] script) else texts_from (part ++ b ∷ []) script) end bytes last
      → SessionOver on_error read state (if cut then (if blank then texts_from [] (script ++ more) else part_text part true ∷ texts_from [] (script ++ more)) else texts_from (part ++ b ∷ []) (script ++ more)) end bytes last
  at_byte part script b true true state bytes anew on session = anew state bytes session
  at_byte part script b true false state bytes anew on session = closed_part on_error end state last part (texts_from [] script) (texts_from [] (script ++ more)) read anew bytes session
  at_byte part script b false blank state bytes anew on session = on state bytes session

  goes_on : (script part : List ℕ) → GoesOn part script
  unfolding texts_from
  goes_on [] part = λ state bytes session. at_rest part bytes state (is_blank_part part) session
  goes_on (b ∷ script) part = λ state bytes session. at_byte part script b (cuts part b) (is_blank_part part) state bytes (goes_on script []) (goes_on script (part ++ b ∷ [])) session

  pub still_ended : (script : List ℕ) (parts all : List Part) (state : State) (bytes : List ℕ) → AreParts script parts → AreParts (script ++ more) all → Session on_error Fault script state parts end bytes last
      → Session on_error read (script ++ more) state all end bytes last
  still_ended script parts all state bytes are longer session =
      subst (λ parts. SessionOver on_error read state parts end bytes last) (parts_given (script ++ more) all longer)
      (goes_on script [] state bytes (subst (λ parts. SessionOver on_error Fault state parts end bytes last) (sym (parts_given script parts are)) session))
