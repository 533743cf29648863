-- Answering the parts of a script while the script is still being read (SQL-92: direct invocation of SQL).
use Rattle.std.specs.Prelude.{◌≡◌, ◌⊎◌, ℕ, Bool, true, false, List, [], ◌++◌, Option, MatchOption}
use Rattle.std.specs.Io.KnownBytes.{Appends}
use Rattle.bw_split.specs.Splitters.{Begun, Splitting}
use Rattle.bw_split.specs.Splitting.{PartText, texts_from}
use Rattle.bw_model.specs.ReplyText.{reply_text}
use Rattle.bw_model.specs.declared.reply.Reply.{Reply}
use Rattle.bw_shell.specs.Run.{MayAnswer, SessionOver, stops}
use Rattle.bw_shell.specs.States.{State}
use Rattle.bw_shell.specs.Writing.{AppendsPrefix}
use Rattle.bw_shell.specs.declared.reading.ScriptEnd.{ScriptEnd}
use Rattle.bw_shell.specs.declared.reading.ScriptEnd.TheVariants.{Reached}
use Rattle.bw_shell.specs.declared.running.OnError.{OnError}
use Rattle.bw_shell.specs.declared.running.RunEnd.{RunEnd}
use Rattle.bw_shell.specs.declared.running.RunEnd.TheVariants as ends

-- the parts of a script, as a function of its remaining bytes
abbrev pub PartsWith : Type 0
PartsWith = List ℕ → List PartText

-- From this state, a run over these parts has reached that state. It wrote these bytes, and each continuation from there over the
-- rest is a continuation from here.
pub record Ran (on_error : OnError) (first : State) (all : PartsWith) (old now : Option (List ℕ)) (rest : PartsWith) (state : State) : Type 0 where
  pub written : List ℕ
  pub grown : Appends old now written
  pub goes_on : (read : ScriptEnd) (more : List ℕ) (end : RunEnd) (bytes : List ℕ) (last : State) → SessionOver on_error read state (rest more) end bytes last → SessionOver on_error read first (all more) end (written ++ bytes) last

-- From this state, a run over these parts has this end and final state, whatever follows in the script.
pub record HasEnded (on_error : OnError) (first : State) (all : PartsWith) (old new : Option (List ℕ)) (end : RunEnd) (last : State) : Type 0 where
  pub written : List ℕ
  pub grown : Appends old new written
  pub session : (read : ScriptEnd) (more : List ℕ) → SessionOver on_error read first (all more) end written last

-- the reply was written whole, and the run goes on; or the writer failed, or the run stops
abbrev pub HandsOver : OnError → Reply → Option (List ℕ) → Option (List ℕ) → Option RunEnd → Type 0
HandsOver on_error reply old new result =
    MatchOption result (Appends old new (reply_text reply) × (stops on_error reply ≡ false))
    (λ end. ((end ≡ ends.WriteFault) × AppendsPrefix old new (reply_text reply)) ⊎ ((end ≡ ends.Stopped) × Appends old new (reply_text reply) × (stops on_error reply ≡ true)))

-- a part with these bytes was answered, and its reply written
abbrev pub AnswersPart : OnError → Bool → List ℕ → State → Option (List ℕ) → Option (List ℕ) → Option RunEnd → State → Type 0
AnswersPart on_error closed text state old new result after =
    (reply : Reply) × MayAnswer state closed text reply after × HandsOver on_error reply old new result

-- the parts that a piece closes were answered, and the next part is begun; or the run ended at one of them
abbrev pub AnswersPiece : OnError → List ℕ → List ℕ → State → Option (List ℕ) → Option (List ℕ) → Option RunEnd → Splitting → State → Type 0
AnswersPiece on_error part piece state old new result splitter after =
    MatchOption result ((next : List ℕ) × Begun splitter next × Ran on_error state (λ more. texts_from part (piece ++ more)) old new (texts_from next) after)
    (λ end. HasEnded on_error state (λ more. texts_from part (piece ++ more)) old new end after)

-- the rest of a completely read script was answered, unless it is blank
abbrev pub AnswersRest : OnError → List ℕ → State → Option (List ℕ) → Option (List ℕ) → RunEnd → State → Type 0
AnswersRest on_error part state old new end after =
    (bytes : List ℕ) × SessionOver on_error Reached state (texts_from part []) end bytes after × Appends old new bytes
