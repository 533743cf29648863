-- What is read at a row of a column in a table file, and past the last row.
use Rattle.std.specs.Prelude.{All, List, None, Option, Some, drop, if◌then◌else◌, length, map, slice_index, ℕ, ℤ, ◌%◌, ◌*◌, ◌/◌, ◌<◌, ◌==◌, ◌≡◌, ◌≤◌}
use Rattle.std.specs.Int.{bit_at, cast_signed, w32}
use Rattle.std.specs.List.{range_with_len}
use Rattle.byteorder.specs.Endian.{little_number}
use Rattle.bw_cells.specs.Known.{known}
use Rattle.bw_code.specs.Fittings.{AreEnds}
use Rattle.bw_code.specs.Headers.{row_limit}
use Rattle.bw_code.specs.declared.ends.Ends.{Ends}
use Rattle.bw_file.specs.Cells.{IsCell, cell_number, presence_size}

-- the cell of row i, by the bits that say which cells are non-null and by the words
abbrev pub read_cell : List ℕ → List ℕ → ℕ → Option ℤ
read_cell present words i =
    if bit_at (slice_index present (i / 8)) (i % 8) == 1 then Some (cast_signed w32 (little_number 4 (drop (4 * i) words))) else None

-- the cell by its bit and its word
abbrev pub cell_by : ℕ → ℕ → Option ℤ
cell_by bit word = if bit == 1 then Some (cast_signed w32 word) else None

-- no bit past the last row is set
abbrev pub HasNoSpareBit : ℕ → List ℕ → Type 0
HasNoSpareBit rows present = (i : ℕ) → rows ≤ i → bit_at (slice_index present (i / 8)) (i % 8) ≡ 0

-- the cells of the first rows
abbrev pub cells_in : ℕ → List ℕ → List ℕ → List (Option ℤ)
cells_in rows present words = map (read_cell present words) (range_with_len 0 rows)

-- the words of the first rows are those of the cells read there: 0 for a null
abbrev pub AreSpelled : ℕ → List ℕ → List ℕ → Type 0
AreSpelled rows present words = (i : ℕ) → i < rows → little_number 4 (drop (4 * i) words) ≡ cell_number (read_cell present words i)

-- bits and words of n rows, as a column encodes its cells, and the ends of these
pub record IsColumn (rows : ℕ) (present words : List ℕ) (ends : Option Ends) : Type 0 where
  pub few : rows ≤ row_limit
  pub bits : length present ≡ presence_size rows
  pub numbers : length words ≡ 4 * rows
  pub spare : HasNoSpareBit rows present
  pub spelled : AreSpelled rows present words
  pub integers : All IsCell (cells_in rows present words)
  pub measured : AreEnds (known (cells_in rows present words)) ends
