-- The first separator or token of a text, as a computation (SQL-92, <token> and <separator>).
use Rattle.std.specs.Prelude.{ℕ, ◌+◌, ◌<◌, ◌≤◌, Bool, false, not, ◌&&◌, ◌||◌, ◌==◌, nat_le, if◌then◌else◌, List, [], ◌∷◌, length, drop, Option, Some, None}
use Rattle.std.specs.List.{prefix_len}
use Rattle.std.specs.Char.{is_ascii_alphabetic, is_ascii_digit}
use Rattle.bw_lex.specs.declared.token.Symbol.{Symbol}
use Rattle.bw_lex.specs.declared.token.Symbol.TheVariants.{Open, Close, Comma, Star, Plus, Minus, Compare}
use Rattle.bw_lex.specs.declared.token.CompareOp.TheVariants.{Eq, Ne, Lt, Le, Gt, Ge}
use Rattle.bw_lex.specs.declared.token.TokenKind.TheVariants as k
use Rattle.bw_lex.specs.Spellings.{is_blank, is_good_text, is_word_byte, word_goes_on}
use Rattle.bw_lex.specs.declared.piece.Piece.{Piece}
use Rattle.bw_lex.specs.declared.piece.Piece.TheVariants.{Separator, Token, Bad}

-- a word extends as far as there are word bytes, and has at most 128
abbrev pub word_piece : List ℕ → Piece
word_piece bytes = if nat_le (prefix_len is_word_byte bytes) 128 then Token k.Word (prefix_len is_word_byte bytes) else Bad

-- a number extends as far as there are digits, and no letter or _ is next
abbrev pub number_piece : List ℕ → Piece
number_piece bytes =
    if word_goes_on (drop (prefix_len is_ascii_digit bytes) bytes) then Bad else Token k.Number (prefix_len is_ascii_digit bytes)

abbrev pub pair_of : ℕ → ℕ → Option Symbol
pair_of a b =
    if a == 60 && b == 62 then Some (Compare Ne)
    else (if a == 33 && b == 61 then Some (Compare Ne)
    else (if a == 60 && b == 61 then Some (Compare Le)
    else (if a == 62 && b == 61 then Some (Compare Ge)
    else None)))

abbrev pub single_of : ℕ → Option Symbol
single_of b =
    if b == 40 then Some Open
    else (if b == 41 then Some Close
    else (if b == 44 then Some Comma
    else (if b == 42 then Some Star
    else (if b == 43 then Some Plus
    else (if b == 45 then Some Minus
    else (if b == 60 then Some (Compare Lt)
    else (if b == 61 then Some (Compare Eq)
    else (if b == 62 then Some (Compare Gt)
    else None))))))))

abbrev pub single_piece : Option Symbol → Piece
single_piece None = Bad
single_piece (Some symbol) = Token (k.Symbol symbol) 1

-- a symbol that begins nothing longer: ( ) , * +
abbrev pub is_alone : ℕ → Bool
is_alone b = b == 40 || b == 41 || b == 44 || b == 42 || b == 43

abbrev pub pair_piece : Option Symbol → ℕ → Piece
pair_piece None a = single_piece (single_of a)
pair_piece (Some symbol) a = Token (k.Symbol symbol) 2

-- a symbol of two bytes takes precedence over one of one byte
abbrev pub symbol_piece : List ℕ → Piece
symbol_piece [] = Bad
symbol_piece (a ∷ []) = single_piece (single_of a)
symbol_piece (a ∷ b ∷ bytes) = pair_piece (pair_of a b) a

abbrev mutual
  -- after a quote, at this index: the index past the next quote that isn't doubled
  pub quoted_end : ℕ → List ℕ → Option ℕ
  quoted_end at [] = None
  quoted_end at (b ∷ bytes) = if b == 39 then quote_end (at + 1) bytes else quoted_end (at + 1) bytes

  -- the same after a quote that may be doubled by the next one
  pub quote_end : ℕ → List ℕ → Option ℕ
  quote_end at [] = Some at
  quote_end at (b ∷ bytes) = if b == 39 then quoted_end (at + 1) bytes else Some at

abbrev mutual
  -- after a quote: the content up to the quote that isn't doubled, with each doubled quote once
  pub contents : List ℕ → List ℕ
  contents [] = []
  contents (b ∷ bytes) = if b == 39 then quote_contents bytes else b ∷ contents bytes

  pub quote_contents : List ℕ → List ℕ
  quote_contents [] = []
  quote_contents (b ∷ bytes) = if b == 39 then 39 ∷ contents bytes else []

-- the content of a text, without the quotes around it
abbrev pub text_says : List ℕ → List ℕ
text_says [] = []
text_says (quote ∷ bytes) = contents bytes

abbrev pub closed_text : List ℕ → Option ℕ → Piece
closed_text bytes None = Bad
closed_text bytes (Some n) = if is_good_text (contents bytes) then Token k.Text n else Bad

abbrev pub text_piece : List ℕ → Piece
text_piece bytes = closed_text bytes (quoted_end 1 bytes)

-- -- begins a comment, which extends to the end of the line
abbrev pub is_comment : List ℕ → Bool
is_comment (a ∷ b ∷ bytes) = a == 45 && b == 45
is_comment _ = false

abbrev pub comment_len : List ℕ → ℕ
comment_len bytes = prefix_len (λ b. not (b == 10)) bytes

-- The first piece. Where there are no bytes there is none.
abbrev pub piece_from : ℕ → List ℕ → Piece
piece_from b bytes =
    if is_alone b then single_piece (single_of b)
    else (if is_ascii_digit b then number_piece (b ∷ bytes)
    else (if is_blank b then Separator 1
    else (if is_ascii_alphabetic b then word_piece (b ∷ bytes)
    else (if b == 39 then text_piece bytes
    else (if is_comment (b ∷ bytes) then Separator (comment_len (b ∷ bytes))
    else symbol_piece (b ∷ bytes))))))

abbrev pub first_piece : List ℕ → Piece
first_piece [] = Bad
first_piece (b ∷ bytes) = piece_from b bytes

-- a piece has at least one byte, and no more than there are
abbrev pub FitsIn : Piece → List ℕ → Type 0
FitsIn (Separator n) bytes = (0 < n) × (n ≤ length bytes)
FitsIn (Token kind n) bytes = (0 < n) × (n ≤ length bytes)
FitsIn Bad bytes = Unit {0}
