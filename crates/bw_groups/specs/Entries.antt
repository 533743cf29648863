-- Values that are given by their indices in a list.
use Rattle.std.specs.Prelude.{List, Option, length, map, option_map, pos, slice_index_or, unsigned_abs, ℤ, ◌<ℤ◌, ◌≤ℤ◌}

-- a number is the index of an entry
abbrev pub IsIndexOf : List ℤ → ℤ → Type 0
IsIndexOf entries index = (pos 0 ≤ℤ index) × (index <ℤ pos (length entries))

-- the entry at an index
abbrev pub entry_of : List ℤ → ℤ → ℤ
entry_of entries index = slice_index_or entries (unsigned_abs index) (pos 0)

-- the entries at these indices; null stays null
abbrev pub entries_of : List ℤ → List (Option ℤ) → List (Option ℤ)
entries_of entries indices = map (option_map (entry_of entries)) indices
