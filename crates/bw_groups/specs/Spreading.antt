-- Ranks of all values, from those of the non-null ones.
use Rattle.std.specs.Prelude.{List, None, Option, Some, [], ◌∷◌, ℕ, ℤ}

-- each null has the same rank, and each other value takes the next rank of the list
abbrev pub ranks_over : List (Option ℤ) → List ℕ → ℕ → List ℕ
ranks_over [] ranks null = []
ranks_over (None ∷ values) ranks null = null ∷ ranks_over values ranks null
ranks_over (Some x ∷ values) [] null = []
ranks_over (Some x ∷ values) (rank ∷ ranks) null = rank ∷ ranks_over values ranks null
