-- The tokens of a text: separators and tokens one after another, each the longest that fits (SQL-92, <token> and <separator>).
use Rattle.std.specs.Prelude.{◌≡◌, ◌≢◌, ℕ, ◌+◌, ◌≤◌, List, [], ◌∷◌, ◌++◌, length, take, drop, IsTrue, IsFalse, ◌⊎◌}
use Rattle.bw_lex.specs.declared.fault.SqlFault.{SqlFault}
use Rattle.bw_lex.specs.declared.fault.SqlFault.TheVariants as f
use Rattle.bw_lex.specs.declared.piece.Piece.{Piece}
use Rattle.bw_lex.specs.declared.piece.Piece.TheVariants as p
use Rattle.bw_lex.specs.declared.token.Token.{Token}
use Rattle.bw_lex.specs.declared.token.TokenKind.{TokenKind}
use Rattle.bw_lex.specs.declared.token.TokenKind.TheVariants as k
use Rattle.bw_lex.specs.Spellings.{IsComment, IsNumber, IsOneBlank, IsSymbol, IsWord, begins_with, is_good_text, quoted, word_goes_on}

-- what may be at the beginning of a text
pub data Shape : Type 0 where
  separator : Shape
  token : TokenKind → Shape

-- These bytes have the shape before this rest: no letter, digit or _ directly follows a number, and no quote a text.
abbrev pub Fits : Shape → List ℕ → List ℕ → Type 0
Fits separator bytes rest = IsOneBlank bytes ⊎ IsComment bytes
Fits (token k.Word) bytes rest = IsWord bytes
Fits (token k.Number) bytes rest = IsNumber bytes × IsFalse (word_goes_on rest)
Fits (token k.Text) bytes rest = (says : List ℕ) × (bytes ≡ quoted says) × IsFalse (begins_with 39 rest)
Fits (token (k.Symbol symbol)) bytes rest = IsSymbol symbol bytes

-- the bytes fit, and no longer prefix of the text does
pub record IsLongest (shape : Shape) (bytes rest : List ℕ) : Type 0 where
  pub fits : Fits shape bytes rest
  pub longest : (other : Shape) (more left : List ℕ) → more ++ left ≡ bytes ++ rest → Fits other more left → length more ≤ length bytes

-- the limits on a word and on the content of a text
abbrev pub IsAllowed : Shape → List ℕ → Type 0
IsAllowed (token k.Word) bytes = length bytes ≤ 128
IsAllowed (token k.Text) bytes = (says : List ℕ) × (bytes ≡ quoted says) × IsTrue (is_good_text says)
IsAllowed _ bytes = Unit {0}

abbrev pub IsNext : Shape → List ℕ → List ℕ → Type 0
IsNext shape bytes rest = IsLongest shape bytes rest × IsAllowed shape bytes

-- the text begins with this piece: a separator or a token of this many bytes, or with neither
abbrev pub BeginsWith : List ℕ → Piece → Type 0
BeginsWith text (p.Separator n) = IsNext separator (take n text) (drop n text)
BeginsWith text (p.Token kind n) = IsNext (token kind) (take n text) (drop n text)
BeginsWith text p.Bad = (shape : Shape) (bytes left : List ℕ) → text ≡ bytes ++ left → IsNext shape bytes left → ⊥

-- The text, from this index on and up to the rest, is separators and tokens one after another, and these are the tokens.
pub data AreTokensFrom : ℕ → List ℕ → List ℕ → List Token → Type 0 where
  done : {at : ℕ} {text rest : List ℕ} → text ≡ rest → AreTokensFrom at text rest []
  past_separator : {at : ℕ} {text rest : List ℕ} {tokens : List Token} (bytes left : List ℕ) → text ≡ bytes ++ left → IsNext separator bytes left → AreTokensFrom (at + length bytes) left rest tokens → AreTokensFrom at text rest tokens
  past_token : {at : ℕ} {text rest : List ℕ} {tokens : List Token} (kind : TokenKind) (bytes left : List ℕ) → text ≡ bytes ++ left → IsNext (token kind) bytes left → AreTokensFrom (at + length bytes) left rest tokens → AreTokensFrom at text rest (record { kind = kind; span = record { start = at; end = at + length bytes } } ∷ tokens)

-- these are the tokens of the text
abbrev pub AreTokens : List ℕ → List Token → Type 0
AreTokens text tokens = AreTokensFrom 0 text [] tokens

-- something is left, and it begins with neither a separator nor a token
pub record IsBad (rest : List ℕ) : Type 0 where
  pub some : rest ≢ []
  pub none : (shape : Shape) (bytes left : List ℕ) → rest ≡ bytes ++ left → IsNext shape bytes left → ⊥

-- these are the tokens of the text up to a bad one
pub record AreTokensToBad (text : List ℕ) (tokens : List Token) : Type 0 where
  pub rest : List ℕ
  pub is_bad : IsBad rest
  pub tokens_are : AreTokensFrom 0 text rest tokens

-- a token of the text is bad
abbrev pub HasBadToken : List ℕ → Type 0
HasBadToken text = (tokens : List Token) × AreTokensToBad text tokens

-- a fault that depends on the tokens alone: a bad one, or out of memory
abbrev pub IsTokensFault : SqlFault → List ℕ → Type 0
IsTokensFault f.Syntax text = HasBadToken text
IsTokensFault f.Memory text = Unit {0}
IsTokensFault _ text = ⊥
