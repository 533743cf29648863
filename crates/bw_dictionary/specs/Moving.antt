-- Codes that are mapped to other indices.
use Rattle.std.specs.Prelude.{List, None, Option, Some, slice_index, true, ℕ, ℤ, ◌<◌, ◌≡◌}
use Rattle.bw_mask.specs.Masks.{bit_of}
use Rattle.bw_dictionary.specs.Ranking.{place_of}

-- one of the first n rows has this code, and its bit is set
abbrev pub IsCodeOf : List ℕ → ℕ → ℕ → ℕ → Type 0
IsCodeOf codes present n m = (k : ℕ) × (k < n) × (bit_of present k ≡ true) × (slice_index codes k ≡ m)

-- the table's value at the index of a cell's integer among entries; 0 for a null
abbrev pub moved_place : List ℕ → List ℤ → Option ℤ → ℕ
moved_place table entries None = 0
moved_place table entries (Some x) = slice_index table (place_of entries (Some x))
