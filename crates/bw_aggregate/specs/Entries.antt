-- The values of rows, looked up in a dictionary by their codes.
use Rattle.std.specs.Prelude.{Bool, List, None, Option, Some, if◌then◌else◌, length, pos, slice_index, slice_index_or, ℕ, ℤ, ◌+◌, ◌<◌, ◌≡◌, ◌≤◌}
use Rattle.bw_mask.specs.Masks.{bit_of}
use Rattle.bw_column.specs.Values.{value_at}
use Rattle.bw_aggregate.specs.Chosen.{value_in}

-- each of the values is the entry of its code, or null
abbrev pub AreFound : List (Option ℤ) → List ℤ → List ℕ → (ℕ → Bool) → Type 0
AreFound all entries codes known = (r : ℕ) → r < length all → value_at all r ≡ (if known r then Some (slice_index_or entries (slice_index codes r) (pos 0)) else None)

-- the codes of a run of rows from an index on, with the entries of the selected ones
pub record AreSummed (need : List Bool) (all : List (Option ℤ)) (at : ℕ) (entries : List ℤ) (codes : List ℕ) (word : ℕ) : Type 0 where
  pub same : length need ≡ length all
  pub inside : at + length codes ≤ length all
  pub each : (i : ℕ) → i < length codes → value_in need all (at + i) ≡ (if bit_of word i then slice_index_or entries (slice_index codes i) (pos 0) else pos 0)
