-- The prefix of a script up to a semicolon, as a computation: comments, texts and other bytes (SQL-92, <direct SQL statement>).
use Rattle.std.specs.Prelude.{◌≡◌, ℕ, ◌+◌, ◌≤◌, Bool, true, false, not, ◌&&◌, ◌==◌, if◌then◌else◌, nat_lt, List, [], ◌∷◌, length, take, drop, Option, Some, None, IsTrue, ◌⊎◌}
use Rattle.std.specs.List.{list_all, prefix_len}
use Rattle.bw_lex.specs.Parts.{IsRun, Piece, is_blank_run}
use Rattle.bw_lex.specs.Pieces.{comment_len}
use Rattle.bw_lex.specs.Spellings.{begins_with, is_blank}
use Rattle.bw_lex.specs.declared.script.Front.{Front}

-- how many bytes these are, and whether they are blank
abbrev pub front : ℕ → Bool → Front
front n blank = record { len = n; is_blank = blank }

abbrev pub says_len : List ℕ → ℕ
says_len after = prefix_len (λ b. not (b == 39)) after

-- after a quote: how long the text is, with its quotes, up to the next one or the end
abbrev pub text_len : List ℕ → ℕ
text_len after = if nat_lt (says_len after) (length after) then says_len after + 2 else says_len after + 1

-- a byte that begins no text, cut or comment
abbrev pub is_plain : ℕ → Bool
is_plain b = not (b == 39) && not (b == 59) && not (b == 45)

abbrev pub plain_len : List ℕ → ℕ
plain_len bytes = prefix_len is_plain bytes

abbrev pub plain_front : List ℕ → Front
plain_front bytes = front (plain_len bytes) (list_all is_blank (take (plain_len bytes) bytes))

abbrev pub front_from : ℕ → List ℕ → Option Front
front_from b bytes =
    if b == 59 then None
    else (if b == 39 then Some (front (text_len bytes) false)
    else (if b == 45 then Some (if begins_with 45 bytes then front (comment_len (b ∷ bytes)) true else front 1 false)
    else Some (plain_front (b ∷ bytes))))

-- the first of them; `None` at a cut or at the end
abbrev pub first_front : List ℕ → Option Front
first_front [] = None
first_front (b ∷ bytes) = front_from b bytes

-- the prefix of the script is pieces, without a cut
pub record IsFront (script : List ℕ) (f : Front) : Type 0 where
  pub pieces : List Piece
  pub run : IsRun pieces script (drop f.len script)
  pub within : f.len ≤ length script
  pub blank : f.is_blank ≡ is_blank_run pieces

-- a cut or the end
abbrev pub EndsRun : List ℕ → Type 0
EndsRun rest = (rest ≡ []) ⊎ IsTrue (begins_with 59 rest)
