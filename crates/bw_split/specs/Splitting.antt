-- A script byte by byte: state after an open part, effect of a piece, parts yielded (SQL-92, <direct SQL statement>).
use Rattle.std.specs.Prelude.{◌≡◌, ℕ, Bool, true, false, ◌&&◌, ◌||◌, ◌==◌, if◌then◌else◌, List, [], ◌∷◌, ◌++◌, slice_range}
use Rattle.bw_lex.specs.Spellings.{is_blank}
use Rattle.bw_lex.specs.declared.script.Part.{Part}
use Rattle.bw_split.specs.declared.progress.LexicalState.{LexicalState}
use Rattle.bw_split.specs.declared.progress.LexicalState.TheVariants.{Outside, Dash, Comment, Text}
use Rattle.bw_split.specs.declared.progress.Progress.{Progress}

-- the state after a byte outside texts and comments
abbrev pub opened_by : ℕ → LexicalState
opened_by b = if b == 39 then Text else (if b == 45 then Dash else Outside)

-- the state after a byte. A text here ends at the next quote, so that a doubled quote ends one text and begins another.
abbrev pub next_state : LexicalState → ℕ → LexicalState
next_state Outside b = opened_by b
next_state Dash b = if b == 45 then Comment else opened_by b
next_state Comment b = if b == 10 then Outside else Comment
next_state Text b = if b == 39 then Outside else Text

-- Whether a part that is blank so far stays blank with this byte. Whether a `-` begins a comment is decided at the byte after it.
abbrev pub keeps_blank : LexicalState → ℕ → Bool
keeps_blank Outside b = b == 45 || is_blank b
keeps_blank Dash b = b == 45
keeps_blank Comment b = true
keeps_blank Text b = false

-- a `;` outside texts and comments
abbrev pub is_cut : LexicalState → ℕ → Bool
is_cut Outside b = b == 59
is_cut Dash b = b == 59
is_cut Comment b = false
is_cut Text b = false

-- the progress of an empty part
abbrev pub at_first : Progress
at_first = record { state = Outside; is_blank = true }

-- one byte further
abbrev pub step : Progress → ℕ → Progress
step progress b = record { state = next_state progress.state b; is_blank = progress.is_blank && keeps_blank progress.state b }

-- these bytes further
abbrev pub progress_from : Progress → List ℕ → Progress
progress_from progress [] = progress
progress_from progress (b ∷ bytes) = progress_from (step progress b) bytes

-- the state after the bytes of a part, and whether they are blank up to a `-` at their end
abbrev pub progress_of : List ℕ → Progress
progress_of part = progress_from at_first part

abbrev pub is_dash : LexicalState → Bool
is_dash Dash = true
is_dash _ = false

-- blank so far, with no `-` at the end
abbrev pub is_all_blank : Progress → Bool
is_all_blank progress = if is_dash progress.state then false else progress.is_blank

-- nothing but blanks and comments
abbrev pub is_blank_part : List ℕ → Bool
is_blank_part part = is_all_blank (progress_of part)

-- whether this byte after the part ends it
abbrev pub cuts : List ℕ → ℕ → Bool
cuts part b = is_cut (progress_of part).state b

-- The result of a piece after an open part: both, still open; or a part closed by a cut in the piece, and the bytes left of it.
pub data Fed : Type 0 where
  goes_on : List ℕ → Fed
  closes : List ℕ → List ℕ → Fed

-- a part that is blank is dropped at its cut
unfoldable pub fed : List ℕ → List ℕ → Fed
fed part [] = goes_on part
fed part (b ∷ piece) =
    if cuts part b then (if is_blank_part part then fed [] piece else closes part piece)
    else fed (part ++ b ∷ []) piece

-- a part: all of its bytes, and whether a `;` closes it
pub record PartText : Type 0 where
  pub text : List ℕ
  pub is_closed : Bool

abbrev pub part_text : List ℕ → Bool → PartText
part_text text is_closed = record { text = text; is_closed = is_closed }

-- the parts of a script whose open part is the first list, and whose rest is the second
unfoldable pub texts_from : List ℕ → List ℕ → List PartText
texts_from part [] = if is_blank_part part then [] else part_text part false ∷ []
texts_from part (b ∷ bytes) =
    if cuts part b then (if is_blank_part part then texts_from [] bytes else part_text part true ∷ texts_from [] bytes)
    else texts_from (part ++ b ∷ []) bytes

-- an open part, fed with these pieces one after another and finished, yields these parts
pub data PiecesGive : List ℕ → List (List ℕ) → List PartText → Type 0 where
  at_end : {part : List ℕ} → PiecesGive part [] (texts_from part [])
  going_on : {part : List ℕ} {pieces : List (List ℕ)} {all : List PartText} (piece next : List ℕ) → fed part piece ≡ goes_on next → PiecesGive next pieces all → PiecesGive part (piece ∷ pieces) all
  closing : {part : List ℕ} {pieces : List (List ℕ)} {all : List PartText} (piece next left : List ℕ) → fed part piece ≡ closes next left → PiecesGive [] (left ∷ pieces) all → PiecesGive part (piece ∷ pieces) (part_text next true ∷ all)

-- the text of this part of a script
abbrev pub text_of_part : List ℕ → Part → PartText
text_of_part script part = part_text (slice_range script part.span.start part.span.end) part.is_closed
