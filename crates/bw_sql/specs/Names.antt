-- Names and reserved words: SQL-92's regular identifiers, of at most 128 bytes, kept in upper case.
use Rattle.std.specs.Prelude.{ℕ, Bool, true, false, not, ◌&&◌, ◌||◌, ◌==◌, nat_le, List, [], ◌∷◌, length, codes, IsTrue, Option, Some, None, is_none, if◌then◌else◌}
use Rattle.std.specs.List.{list_all, list_any}
use Rattle.std.specs.Char.{is_ascii_uppercase, is_ascii_digit}
use Rattle.std.specs.Str.{bytes_eq}
use Rattle.bw_sql.specs.declared.keyword.Keyword.{Keyword}
use Rattle.bw_sql.specs.declared.keyword.Keyword.TheVariants as k

-- the reserved words and their spellings, in upper case
unfoldable pub reserved_words : List (List ℕ × Keyword)
reserved_words =
    (codes "AND", k.And) ∷ (codes "BETWEEN", k.Between) ∷ (codes "BIGINT", k.Bigint) ∷ (codes "BY", k.By)
    ∷ (codes "COUNT", k.Count) ∷ (codes "CREATE", k.Create) ∷ (codes "DELETE", k.Delete) ∷ (codes "DROP", k.Drop)
    ∷ (codes "FALSE", k.False) ∷ (codes "FROM", k.From) ∷ (codes "GROUP", k.Group) ∷ (codes "IN", k.In)
    ∷ (codes "INSERT", k.Insert) ∷ (codes "INT", k.Int) ∷ (codes "INTEGER", k.Integer) ∷ (codes "INTO", k.Into)
    ∷ (codes "IS", k.Is) ∷ (codes "MAX", k.Max) ∷ (codes "MEDIAN", k.Median) ∷ (codes "MIN", k.Min)
    ∷ (codes "NOT", k.Not) ∷ (codes "NULL", k.Null) ∷ (codes "OPEN", k.Open) ∷ (codes "OR", k.Or)
    ∷ (codes "SELECT", k.Select) ∷ (codes "SET", k.Set) ∷ (codes "SUM", k.Sum) ∷ (codes "TABLE", k.Table)
    ∷ (codes "TO", k.To) ∷ (codes "TRUE", k.True) ∷ (codes "UNKNOWN", k.Unknown) ∷ (codes "UPDATE", k.Update)
    ∷ (codes "USING", k.Using) ∷ (codes "VALUES", k.Values) ∷ (codes "WHERE", k.Where) ∷ (codes "WITH", k.With) ∷ []

-- the reserved word among these with this spelling
abbrev pub spelled_among : List (List ℕ × Keyword) → List ℕ → Option Keyword
spelled_among [] word = None
spelled_among (entry ∷ entries) word = if bytes_eq word entry.0 then Some entry.1 else spelled_among entries word

-- the reserved word with this spelling, in upper case
unfoldable pub keyword_of : List ℕ → Option Keyword
keyword_of word = spelled_among reserved_words word

-- a capital letter, a digit or _
abbrev pub is_name_byte : ℕ → Bool
is_name_byte b = is_ascii_uppercase b || is_ascii_digit b || b == 95

abbrev pub begins_with_letter : List ℕ → Bool
begins_with_letter [] = false
begins_with_letter (b ∷ bytes) = is_ascii_uppercase b

-- whether these bytes are a valid name, in upper case
unfoldable pub is_name : List ℕ → Bool
is_name bytes = begins_with_letter bytes && list_all is_name_byte bytes && nat_le (length bytes) 128 && is_none (keyword_of bytes)

abbrev pub IsName : List ℕ → Type 0
IsName bytes = IsTrue (is_name bytes)

-- no name occurs twice in the list
abbrev pub are_distinct : List (List ℕ) → Bool
are_distinct [] = true
are_distinct (name ∷ rest) = not (list_any (bytes_eq name) rest) && are_distinct rest
