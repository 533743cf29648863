-- Sums of the codes and of the values of the rows before an index, and runs of rows from it on.
use Rattle.std.specs.Prelude.{Bool, List, Option, false, length, slice_index_or, sum, take, ℕ, ℤ, ◌%◌, ◌+◌, ◌/◌, ◌<◌, ◌^◌, ◌≡◌, ◌≤◌}
use Rattle.std.specs.List.{items_where_true}
use Rattle.bw_mask.specs.Masks.{bit_of}
use Rattle.bw_cells.specs.SetFunctions.{known, total}

-- the sum of the codes of the selected rows before row n
abbrev pub code_sum : List Bool → List ℕ → ℕ → ℕ
code_sum rows codes n = sum (items_where_true (take n rows) (take n codes))

-- the sum of the values of these rows
abbrev pub value_total : List Bool → List (Option ℤ) → ℕ → ℤ
value_total rows values n = total (known (items_where_true (take n rows) (take n values)))

-- a code as two numbers of 32 bits
abbrev pub lower_half : ℕ → ℕ
lower_half code = code % 2 ^ 32

abbrev pub upper_half : ℕ → ℕ
upper_half code = code / 2 ^ 32

-- there are n rows from row `at` on, and the bits of the word tell which of them are selected
pub record IsRun (rows : List Bool) (at n word : ℕ) : Type 0 where
  pub inside : at + n ≤ length rows
  pub bits : (i : ℕ) → i < n → slice_index_or rows (at + i) false ≡ bit_of word i
