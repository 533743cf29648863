-- A mask tells for each row whether it is set; row i is bit i % 64 of word i / 64, and bits past the end are 0.
use Rattle.std.specs.Prelude.{Bool, List, None, Option, Some, false, length, map, slice_index_or, true, ℕ, ◌+◌, ◌/◌, ◌<◌, ◌^◌, ◌≡◌, ◌≤◌}
use Rattle.std.specs.List.{range_with_len}
-- whether a bit of a word is set, and whether a row is set in a list of words; no row past the last word is
pub use Rattle.bw_lane.specs.Rows.{bit_of, row_in}

-- the rows, and the capacity in rows
pub record MaskRows : Type 0 where
  pub rows : List Bool
  pub room : ℕ

abbrev pub len : MaskRows → ℕ
len mask = length mask.rows

-- whether a row is set; no row past the end is
abbrev pub row_at : MaskRows → ℕ → Bool
row_at mask i = slice_index_or mask.rows i false

-- the same length and the same room
abbrev pub SameShape : MaskRows → MaskRows → Type 0
SameShape a b = (len a ≡ len b) × (a.room ≡ b.room)

-- the least index from i on where a test holds, if there is one
abbrev pub IsNext : (ℕ → Bool) → ℕ → Option ℕ → Type 0
IsNext test i None = (j : ℕ) → i ≤ j → test j ≡ false
IsNext test i (Some next) = (i ≤ next) × (test next ≡ true) × ((j : ℕ) → i ≤ j → j < next → test j ≡ false)

-- the first n indices, each with the result of a test
abbrev pub rows_of : ℕ → (ℕ → Bool) → List Bool
rows_of n test = map test (range_with_len 0 n)

-- the words of a mask of n rows
pub record AreWords (words : List ℕ) (n : ℕ) : Type 0 where
  pub count : length words ≡ (n + 63) / 64
  pub clean : (i : ℕ) → n ≤ i → row_in words i ≡ false
  pub small : n ≤ 2 ^ 32
