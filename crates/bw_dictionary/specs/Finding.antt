-- Entries below an integer.
use Rattle.std.specs.Prelude.{List, pos, slice_index_or, ℕ, ℤ, ◌<◌, ◌<ℤ◌}

-- the first n entries are below it
abbrev pub AreBelow : List ℤ → ℤ → ℕ → Type 0
AreBelow entries x n = (k : ℕ) → k < n → slice_index_or entries k (pos 0) <ℤ x
