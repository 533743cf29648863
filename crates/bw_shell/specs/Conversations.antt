-- Scripts that are run one after the other over one store (SQL-92: direct invocation of SQL).
use Rattle.std.specs.Prelude.{◌≡◌, ◌≢◌, ◌⊎◌, ℕ, if◌then◌else◌, List, [], ◌∷◌, ◌++◌, Some}
use Rattle.bw_lex.specs.Parts.{AreParts}
use Rattle.bw_lex.specs.declared.script.Part.{Part}
use Rattle.bw_split.specs.Splitting.{cuts}
use Rattle.bw_engine.specs.Stores.{Stored}
use Rattle.bw_shell.specs.Folders.{Files}
use Rattle.bw_shell.specs.Run.{HasRun}
use Rattle.bw_shell.specs.States.{State}
use Rattle.bw_shell.specs.declared.reading.ScriptEnd.TheVariants.{Reached}
use Rattle.bw_shell.specs.declared.running.OnError.{OnError}
use Rattle.bw_shell.specs.declared.running.RunEnd.{RunEnd}
use Rattle.bw_shell.specs.declared.running.RunEnd.TheVariants as ends

-- a conversation as contracts see it
pub record Held : Type 0 where
  pub on_error : OnError
  pub tables : Stored
  pub files : Files
  pub replies : List ℕ

abbrev pub held : OnError → Stored → Files → List ℕ → Held
held on_error tables files replies = record { on_error = on_error; tables = tables; files = files; replies = replies }

abbrev pub without_replies : Held → Held
without_replies h = held h.on_error h.tables h.files []

-- its state: its files are known, and its folder never fails
abbrev pub state_of : Held → State
state_of h = record { tables = h.tables; files = Some h.files; failures = 0 }

-- From this state a whole script was answered: its parts are a session with this end and final state; its bytes were appended.
abbrev pub Responds : OnError → List ℕ → State → List ℕ → List ℕ → RunEnd → State → Type 0
Responds on_error script before old new end after =
    (parts : List Part) × AreParts script parts × HasRun on_error Reached script parts before (Some old) (Some new) end after

-- all but the files
pub record KeepsRest (old new : Held) : Type 0 where
  pub on_error : new.on_error ≡ old.on_error
  pub tables : new.tables ≡ old.tables
  pub replies : new.replies ≡ old.replies

-- Two scripts were answered in turn: the run of the first ended at one of its parts; or all its parts were answered, and then the
-- second script from the state and with the replies that the first left.
abbrev pub RespondsInTurn : OnError → (first second : List ℕ) → State → (old new : List ℕ) → RunEnd → State → Type 0
RespondsInTurn on_error first second before old new end after =
    ((end ≢ ends.Done) × Responds on_error first before old new end after)
    ⊎ ((mid : State) × (between : List ℕ) × Responds on_error first before old between ends.Done mid × Responds on_error second mid between new end after)

-- the bytes after the last cut of a script; the first list is the part that has begun, the second the rest of the script
unfoldable pub behind_cuts : List ℕ → List ℕ → List ℕ
behind_cuts part [] = part
behind_cuts part (b ∷ bytes) = if cuts part b then behind_cuts [] bytes else behind_cuts (part ++ b ∷ []) bytes

-- a script that ends after a cut, or is empty
abbrev pub EndsAtCut : List ℕ → Type 0
EndsAtCut script = behind_cuts [] script ≡ []
