-- The cells of rows that lie flat.
use Rattle.std.proofs.Common.{All, List, None, Option, [], arith, ap, drop, get_or, length, length-drop, length-take, sym, take, ℕ, ℤ, ◌*◌, ◌+◌, ◌/◌, ◌<◌, ◌∙◌, ◌≡◌, ◌≤◌}
use Rattle.std.proofs.lemmas.List.{get_or-drop, get_or-map, get_or-take, length-map}
use Rattle.bw_table.specs.Slots.{column_of}
use Rattle.bw_column.specs.Values.{value_at}
use Rattle.bw_code.proofs.Lists.{made_at, made_len, part_is}
use Rattle.bw_table.specs.Rows.{row_from, rows_from}

module _ (width : ℕ) (cells : List (Option ℤ)) (i k : ℕ) (row : i < length (rows_from width cells)) (column : k < length (get_or (rows_from width cells) i [])) where
  row_is : get_or (rows_from width cells) i [] ≡ row_from width cells i
  row_is = made_at (length cells / width) (row_from width cells) i [] (omega (arith, row, made_len (length cells / width) (row_from width cells)))

  inside : k < length (row_from width cells i)
  inside = omega (arith, column, ap length row_is)

  narrow : k < width
  narrow = omega (arith, inside, length-take width (drop (i * width) cells))

  pub cell_there : i * width + k < length cells
  cell_there = omega (arith, inside, length-take width (drop (i * width) cells), length-drop (i * width) cells)

  pub cell_is : value_at (get_or (rows_from width cells) i []) k ≡ get_or cells (i * width + k) None
  cell_is = ap (λ r. value_at r k) row_is ∙ get_or-take width (drop (i * width) cells) k None narrow ∙ get_or-drop (i * width) cells k None

-- each row has a cell at the place
pub column_there : (width : ℕ) (cells : List (Option ℤ)) (k : ℕ) → All (λ row. k < length row) (rows_from width cells) → (i : ℕ) → i < length (rows_from width cells) → i * width + k < length cells
column_there width cells k wide i h = cell_there width cells i k h (wide i [] h)

-- and a part of the column is made of those cells
pub column_part : (width : ℕ) (cells : List (Option ℤ)) (k : ℕ) → All (λ row. k < length row) (rows_from width cells) → (at : ℕ) (out : List (Option ℤ)) → at + length out ≤ length (rows_from width cells) → ((i : ℕ) → i < length out → value_at out i ≡ value_at cells ((at + i) * width + k)) → out ≡ take (length out) (drop at (column_of (rows_from width cells) k))
column_part width cells k wide at out fits each =
    let rows = rows_from width cells in
    part_is (column_of rows k) out at None (omega (arith, length-map rows (λ (row : List (Option ℤ)). value_at row k))) (λ i h.
    let low : at + i < length rows = omega (arith, fits, h) in
    each i h ∙ sym (cell_is width cells (at + i) k low (wide (at + i) [] low)) ∙ sym (get_or-map (λ (row : List (Option ℤ)). value_at row k) rows (at + i) [] None low))
