-- Strictly ascending lists of integers.
use Rattle.std.specs.Prelude.{List, ℕ, ℤ, length, pos, slice_index_or, ◌<◌, ◌<ℤ◌}

-- each entry is below those after it, so none occurs twice
abbrev pub IsAscending : List ℤ → Type 0
IsAscending entries = (i j : ℕ) → i < j → j < length entries → slice_index_or entries i (pos 0) <ℤ slice_index_or entries j (pos 0)
