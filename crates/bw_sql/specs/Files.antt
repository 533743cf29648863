-- File names: the content of a text (SQL-92, <character string literal>).
use Rattle.std.specs.Prelude.{ℕ, List, IsTrue}
use Rattle.bw_lex.specs.Spellings.{is_good_text}

-- 1 to 255 bytes of UTF-8, without the byte 0
abbrev pub IsFileName : List ℕ → Type 0
IsFileName bytes = IsTrue (is_good_text bytes)
