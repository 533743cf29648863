-- The parts of a script: what is between its semicolons outside texts and comments (SQL-92, <direct SQL statement>).
use Rattle.std.specs.Prelude.{◌≡◌, ◌≢◌, ℕ, ◌+◌, ◌≤◌, Bool, true, false, if◌then◌else◌, List, [], ◌∷◌, ◌++◌, length, drop, IsTrue, IsFalse, ◌⊎◌}
use Rattle.std.specs.List.{list_all}
use Rattle.bw_lex.specs.Spellings.{begins_with, has_no, is_blank}
use Rattle.bw_lex.specs.declared.script.Part.{Part}

-- What is between the cuts. A text here ends at the next quote, so that a doubled quote ends one text and begins another.
pub data Piece : Type 0 where
  comment : List ℕ → Piece
  text : List ℕ → Piece
  open_text : List ℕ → Piece
  other : ℕ → Piece

abbrev pub bytes_of : Piece → List ℕ
bytes_of (comment says) = 45 ∷ 45 ∷ says
bytes_of (text says) = 39 ∷ says ++ 39 ∷ []
bytes_of (open_text says) = 39 ∷ says
bytes_of (other b) = b ∷ []

-- A piece before this rest: a comment takes its line, an unclosed text all bytes; another byte begins no comment, text or cut.
abbrev pub StandsBefore : List ℕ → Piece → Type 0
StandsBefore rest (comment says) = IsTrue (has_no 10 says) × ((rest ≡ []) ⊎ IsTrue (begins_with 10 rest))
StandsBefore rest (text says) = IsTrue (has_no 39 says)
StandsBefore rest (open_text says) = IsTrue (has_no 39 says) × (rest ≡ [])
StandsBefore rest (other b) = (b ≢ 39) × (b ≢ 59) × (b ≡ 45 → IsFalse (begins_with 45 rest))

-- the script is these pieces, and then the rest
abbrev pub IsRun : List Piece → List ℕ → List ℕ → Type 0
IsRun [] script rest = script ≡ rest
IsRun (piece ∷ pieces) script rest = (left : List ℕ) × (script ≡ bytes_of piece ++ left) × StandsBefore left piece × IsRun pieces left rest

abbrev pub is_blank_piece : Piece → Bool
is_blank_piece (comment says) = true
is_blank_piece (other b) = is_blank b
is_blank_piece _ = false

-- nothing but blanks and comments
abbrev pub is_blank_run : List Piece → Bool
is_blank_run run = list_all is_blank_piece run

abbrev pub run_len : List Piece → ℕ
run_len [] = 0
run_len (piece ∷ run) = length (bytes_of piece) + run_len run

-- the run from this index on as a part before the others, unless it is blank
abbrev pub with_part : ℕ → List Piece → Bool → List Part → List Part
with_part at run closed parts =
    if is_blank_run run then parts else record { span = record { start = at; end = at + run_len run }; is_closed = closed } ∷ parts

-- From this index on, a script is runs with a cut after each but the last, and these are its parts.
pub data ArePartsFrom : ℕ → List ℕ → List Part → Type 0 where
  cut : {at : ℕ} {script : List ℕ} {parts : List Part} (run : List Piece) (rest : List ℕ) → IsRun run script (59 ∷ rest) → ArePartsFrom (at + run_len run + 1) rest parts → ArePartsFrom at script (with_part at run true parts)
  last : {at : ℕ} {script : List ℕ} (run : List Piece) → IsRun run script [] → ArePartsFrom at script (with_part at run false [])

-- these are the parts of the script
abbrev pub AreParts : List ℕ → List Part → Type 0
AreParts script parts = ArePartsFrom 0 script parts

-- The script reassembled: runs with a cut between any two, and the parts that they give.

abbrev pub run_bytes : List Piece → List ℕ
run_bytes [] = []
run_bytes (piece ∷ run) = bytes_of piece ++ run_bytes run

abbrev pub joined : List Piece → List (List Piece) → List ℕ
joined run [] = run_bytes run
joined run (next ∷ runs) = run_bytes run ++ 59 ∷ joined next runs

abbrev pub parts_of : ℕ → List Piece → List (List Piece) → List Part
parts_of at run [] = with_part at run false []
parts_of at run (next ∷ runs) = with_part at run true (parts_of (at + run_len run + 1) next runs)

pub record IsJoined (at : ℕ) (script : List ℕ) (parts : List Part) : Type 0 where
  pub run : List Piece
  pub runs : List (List Piece)
  pub whole : script ≡ joined run runs
  pub parts_are : parts ≡ parts_of at run runs

-- a `;` at the end of the part, or the end of the script
abbrev pub EndsPart : Bool → List ℕ → Type 0
EndsPart true rest = IsTrue (begins_with 59 rest)
EndsPart false rest = rest ≡ []

-- the part lies in the script, isn't blank, and ends at a cut if it is closed, else at the end
pub record IsPartOf (script : List ℕ) (part : Part) : Type 0 where
  pub ordered : part.span.start ≤ part.span.end
  pub within : part.span.end ≤ length script
  pub run : List Piece
  pub is_run : IsRun run (drop part.span.start script) (drop part.span.end script)
  pub says : IsFalse (is_blank_run run)
  pub ends : EndsPart part.is_closed (drop part.span.end script)
