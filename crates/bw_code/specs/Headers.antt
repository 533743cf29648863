-- How many columns and rows a table has at most.
use Rattle.std.specs.Prelude.{ℕ}

abbrev pub column_limit : ℕ
column_limit = 64

abbrev pub row_limit : ℕ
row_limit = 16777216
