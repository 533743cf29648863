-- Which script the program answers, and how that may end.
use Rattle.std.specs.Prelude.{◌≡◌, ℕ, List, Option, Some, None, ⊤}
use Rattle.bw_shell.specs.Run.{RunsTo}
use Rattle.bw_shell.specs.States.{seen}
use Rattle.bw_shell.specs.declared.running.OnError.{OnError}
use Rattle.bw_shell.specs.declared.running.RunEnd.{RunEnd}
use Rattle.bw_program.specs.declared.ending.Ending.{Ending}
use Rattle.bw_program.specs.declared.ending.Ending.TheVariants.{NotAsked, NotOpened, Ran}
use Rattle.bw_program.specs.declared.request.WordsFault.TheVariants.{Memory, Usage}
use Rattle.bw_program.specs.Words.{Asked, Text, on_error_of}

-- a run over what the reader gave has this end, whatever the writer held, with a folder whose files aren't known
abbrev pub EndsOver : OnError → Option (List ℕ) → Option (List ℕ) → RunEnd → Type 0
EndsOver on_error given left end = (old : Option (List ℕ)) × (new : Option (List ℕ)) × (failures : ℕ) × RunsTo on_error given left old new (seen None 0) (seen None failures) end

-- the program ends as a run over what the reader gave
abbrev pub AnswersOver : OnError → Option (List ℕ) → Option (List ℕ) → Ending → Type 0
AnswersOver on_error given left ending = (end : RunEnd) × (ending ≡ Ran end) × EndsOver on_error given left end

-- the script at a path couldn't be opened; or it was run, whatever its bytes are
abbrev pub IsOfFile : OnError → Ending → Type 0
IsOfFile on_error (Ran end) = (given : Option (List ℕ)) × (left : Option (List ℕ)) × EndsOver on_error given left end
IsOfFile on_error NotOpened = ⊤
IsOfFile on_error (NotAsked _) = ⊥

-- standard input is answered if no path is named, and else it is left unread
abbrev pub AnswersScript : Option Text → OnError → Option (List ℕ) → Option (List ℕ) → Ending → Type 0
AnswersScript None on_error given left ending = AnswersOver on_error given left ending
AnswersScript (Some path) on_error given left ending = (left ≡ given) × IsOfFile on_error ending

-- the program did what its words ask for; if they are refused, or memory runs out, standard input is left unread
abbrev pub Follows : Option Asked → Option (List ℕ) → Option (List ℕ) → Ending → Type 0
Follows asked given left (NotAsked Memory) = left ≡ given
Follows asked given left (NotAsked Usage) = (asked ≡ None) × (left ≡ given)
Follows None given left (Ran _) = ⊥
Follows None given left NotOpened = ⊥
Follows (Some asked) given left (Ran end) = AnswersScript asked.script (on_error_of asked.stop) given left (Ran end)
Follows (Some asked) given left NotOpened = AnswersScript asked.script (on_error_of asked.stop) given left NotOpened
