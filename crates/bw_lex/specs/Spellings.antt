-- What a token and a separator are, as runs of bytes (SQL-92, <regular identifier>, <unsigned integer>, <character string literal>, <SQL special character>, <separator>).
use Rattle.std.specs.Prelude.{◌≡◌, ◌≢◌, ℕ, ◌≤◌, Bool, false, not, ◌&&◌, ◌||◌, ◌==◌, nat_le, nat_lt, if◌then◌else◌, List, [], ◌∷◌, ◌++◌, length, slice_range, codes, IsTrue, ◌⊎◌}
use Rattle.std.specs.List.{list_all, list_any}
use Rattle.std.specs.Char.{is_ascii_alphabetic, is_ascii_alphanumeric, is_ascii_digit}
use Rattle.std.specs.Str.{is_utf8}
use Rattle.bw_lex.specs.declared.token.Token.{Token}
use Rattle.bw_lex.specs.declared.token.TokenKind.{TokenKind}
use Rattle.bw_lex.specs.declared.token.TokenKind.TheVariants as k
use Rattle.bw_lex.specs.declared.token.Symbol.{Symbol}
use Rattle.bw_lex.specs.declared.token.Symbol.TheVariants.{Open, Close, Comma, Star, Plus, Minus, Compare}
use Rattle.bw_lex.specs.declared.token.CompareOp.TheVariants.{Eq, Ne, Lt, Le, Gt, Ge}

-- a letter, a digit or _
abbrev pub is_word_byte : ℕ → Bool
is_word_byte b = is_ascii_alphanumeric b || b == 95

-- tab, end of line, return and space
abbrev pub is_blank : ℕ → Bool
is_blank b = b == 9 || b == 10 || b == 13 || b == 32

-- none of the bytes is this one
abbrev pub has_no : ℕ → List ℕ → Bool
has_no byte bytes = list_all (λ b. not (b == byte)) bytes

abbrev pub begins_with : ℕ → List ℕ → Bool
begins_with byte [] = false
begins_with byte (b ∷ bytes) = b == byte

-- whether a letter, a digit or _ comes first
abbrev pub word_goes_on : List ℕ → Bool
word_goes_on [] = false
word_goes_on (b ∷ bytes) = is_word_byte b

abbrev pub IsOneBlank : List ℕ → Type 0
IsOneBlank bytes = (b : ℕ) × (bytes ≡ b ∷ []) × IsTrue (is_blank b)

-- -- and what follows it in its line
abbrev pub IsComment : List ℕ → Type 0
IsComment bytes = (says : List ℕ) × (bytes ≡ 45 ∷ 45 ∷ says) × IsTrue (has_no 10 says)

-- a letter, and then letters, digits and _
abbrev pub IsWord : List ℕ → Type 0
IsWord [] = ⊥
IsWord (b ∷ bytes) = IsTrue (is_ascii_alphabetic b) × IsTrue (list_all is_word_byte bytes)

-- one or more digits
abbrev pub IsNumber : List ℕ → Type 0
IsNumber bytes = (bytes ≢ []) × IsTrue (list_all is_ascii_digit bytes)

-- each quote twice
abbrev pub doubled : List ℕ → List ℕ
doubled [] = []
doubled (b ∷ bytes) = if b == 39 then 39 ∷ 39 ∷ doubled bytes else b ∷ doubled bytes

-- between quotes, with each quote inside it twice
abbrev pub quoted : List ℕ → List ℕ
quoted says = 39 ∷ doubled says ++ 39 ∷ []

abbrev pub IsSymbol : Symbol → List ℕ → Type 0
IsSymbol Open bytes = bytes ≡ codes "("
IsSymbol Close bytes = bytes ≡ codes ")"
IsSymbol Comma bytes = bytes ≡ codes ","
IsSymbol Star bytes = bytes ≡ codes "*"
IsSymbol Plus bytes = bytes ≡ codes "+"
IsSymbol Minus bytes = bytes ≡ codes "-"
IsSymbol (Compare Eq) bytes = bytes ≡ codes "="
IsSymbol (Compare Ne) bytes = (bytes ≡ codes "<>") ⊎ (bytes ≡ codes "!=")
IsSymbol (Compare Lt) bytes = bytes ≡ codes "<"
IsSymbol (Compare Le) bytes = bytes ≡ codes "<="
IsSymbol (Compare Gt) bytes = bytes ≡ codes ">"
IsSymbol (Compare Ge) bytes = bytes ≡ codes ">="

-- what a text may contain: 1 to 255 bytes of UTF-8, without the byte 0
abbrev pub is_good_text : List ℕ → Bool
is_good_text says = nat_lt 0 (length says) && nat_le (length says) 255 && not (list_any (λ b. b == 0) says) && is_utf8 says

-- these bytes are a token of this kind, within its limits
abbrev pub IsSpelled : TokenKind → List ℕ → Type 0
IsSpelled k.Word bytes = IsWord bytes × (length bytes ≤ 128)
IsSpelled k.Number bytes = IsNumber bytes
IsSpelled k.Text bytes = (says : List ℕ) × (bytes ≡ quoted says) × IsTrue (is_good_text says)
IsSpelled (k.Symbol symbol) bytes = IsSymbol symbol bytes

-- the token lies in the text, and its bytes there are of its kind
pub record IsTokenOf (text : List ℕ) (token : Token) : Type 0 where
  pub ordered : token.span.start ≤ token.span.end
  pub within : token.span.end ≤ length text
  pub spelled : IsSpelled token.kind (slice_range text token.span.start token.span.end)
