-- Rows stored flat in one list, one after another.
use Rattle.std.specs.Prelude.{ℕ, List, [], ◌∷◌, ◌++◌, take, drop}

-- the rows with these widths
abbrev pub rows_of : {A : Type 0} → List ℕ → List A → List (List A)
rows_of [] values = []
rows_of (width ∷ widths) values = take width values ∷ rows_of widths (drop width values)

-- the rows, concatenated
abbrev pub joined : {A : Type 0} → List (List A) → List A
joined [] = []
joined (row ∷ rows) = row ++ joined rows
