-- Rows of one width, consecutive in one list.
use Rattle.std.specs.Prelude.{List, Option, drop, length, take, ℕ, ℤ, ◌*◌, ◌/◌, ◌<◌, ◌≡◌}
use Rattle.bw_code.specs.Lists.{made}
use Rattle.bw_table.specs.declared.rows.RowCells.{RowCells}
use Rattle.bw_table.specs.declared.rows.RowCells.TheVariants.{Integers, Values}

abbrev pub row_from : {A : Type 0} → ℕ → List A → ℕ → List A
row_from width cells i = take width (drop (i * width) cells)

abbrev pub rows_from : {A : Type 0} → ℕ → List A → List (List A)
rows_from width cells = made (length cells / width) (row_from width cells)

-- the cells, in either form
abbrev pub cells_in : RowCells → List (Option ℤ)
cells_in (Values cells) = cells.now
cells_in (Integers cells) = cells.now

-- the cells are whole rows
pub record AreWholeRows {A : Type 0} (width : ℕ) (cells : List A) : Type 0 where
  pub some : 0 < width
  pub count : ℕ
  pub whole : length cells ≡ count * width
