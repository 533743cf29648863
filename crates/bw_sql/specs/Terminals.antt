-- The terminal for a token (SQL-92: key word, regular identifier, unsigned integer, character string literal), and the two limits
-- on tokens.
use Rattle.std.specs.Prelude.{ℕ, ◌+◌, ◌-◌, ◌*◌, ◌^◌, Bool, true, false, nat_le, if◌then◌else◌, List, [], ◌∷◌, ◌++◌, map, count_by, slice_range, Option, Some, None}
use Rattle.std.specs.Char.{to_ascii_uppercase}
use Rattle.bw_lex.specs.declared.fault.SqlFault.{SqlFault}
use Rattle.bw_lex.specs.declared.fault.SqlFault.TheVariants as faults
use Rattle.bw_lex.specs.declared.token.Symbol.TheVariants as s
use Rattle.bw_lex.specs.declared.token.Token.{Token}
use Rattle.bw_lex.specs.declared.token.TokenKind.{TokenKind}
use Rattle.bw_lex.specs.declared.token.TokenKind.TheVariants as kinds
use Rattle.bw_lex.specs.Pieces.{text_says}
use Rattle.bw_sql.specs.declared.keyword.Keyword.{Keyword}
use Rattle.bw_sql.specs.declared.terminal.Terminal.{Terminal}
use Rattle.bw_sql.specs.declared.terminal.Terminal.TheVariants as t
use Rattle.bw_sql.specs.Names.{keyword_of}

-- the number that a number's digits followed by more digits spell
abbrev pub value_after : ℕ → List ℕ → ℕ
value_after n [] = n
value_after n (digit ∷ digits) = value_after (10 * n + (digit - 48)) digits

-- the number that digits spell
abbrev pub number_value : List ℕ → ℕ
number_value digits = value_after 0 digits

-- a word in upper case is a reserved word or a name
abbrev pub word_or_name : Option Keyword → List ℕ → Terminal
word_or_name (Some keyword) word = t.Keyword keyword
word_or_name None word = t.Name word

-- the terminal for a token of this kind with these bytes
abbrev pub terminal_of : TokenKind → List ℕ → Terminal
terminal_of kinds.Word bytes = word_or_name (keyword_of (map to_ascii_uppercase bytes)) (map to_ascii_uppercase bytes)
terminal_of kinds.Number bytes = t.Number (number_value bytes)
terminal_of kinds.Text bytes = t.Text (text_says bytes)
terminal_of (kinds.Symbol symbol) bytes = t.Symbol symbol

abbrev pub token_terminal : List ℕ → Token → Terminal
token_terminal text token = terminal_of token.kind (slice_range text token.span.start token.span.end)

-- the terminals of the tokens of a text
abbrev pub terminals_of : List ℕ → List Token → List Terminal
terminals_of text tokens = map (token_terminal text) tokens

abbrev pub is_open : Terminal → Bool
is_open (t.Symbol s.Open) = true
is_open _ = false

abbrev pub is_close : Terminal → Bool
is_close (t.Symbol s.Close) = true
is_close _ = false

abbrev pub is_minus : Terminal → Bool
is_minus (t.Symbol s.Minus) = true
is_minus _ = false

-- the last of them is a minus
abbrev pub ends_in_minus : List Terminal → Bool
ends_in_minus [] = false
ends_in_minus (x ∷ []) = is_minus x
ends_in_minus (x ∷ y ∷ before) = ends_in_minus (y ∷ before)

-- the largest number allowed after these
abbrev pub largest_after : List Terminal → ℕ
largest_after before = if ends_in_minus before then 2 ^ 63 else 2 ^ 63 - 1

-- a number above the largest
abbrev pub number_fault : ℕ → Terminal → Option SqlFault
number_fault largest (t.Number n) = if nat_le n largest then None else Some faults.BigNumber
number_fault largest _ = None

-- a ( where 64 more were opened than closed
abbrev pub depth_fault : ℕ → ℕ → Terminal → Option SqlFault
depth_fault opened closed (t.Symbol s.Open) = if nat_le (64 + closed) opened then Some faults.TooDeep else None
depth_fault opened closed _ = None

abbrev pub or_else : Option SqlFault → Option SqlFault → Option SqlFault
or_else None later = later
or_else (Some fault) later = Some fault

-- the fault of a terminal that is over a limit, given those before it
abbrev pub limit_fault : List Terminal → Terminal → Option SqlFault
limit_fault before x = or_else (number_fault (largest_after before) x) (depth_fault (count_by is_open before) (count_by is_close before) x)

-- the fault of the first terminal that is over a limit, given those before them
abbrev pub first_limit_fault : List Terminal → List Terminal → Option SqlFault
first_limit_fault before [] = None
first_limit_fault before (x ∷ xs) = or_else (limit_fault before x) (first_limit_fault (before ++ x ∷ []) xs)
