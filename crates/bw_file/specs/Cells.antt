-- A column of a table file, version 1: one bit per row (cell non-null), then cells of 4 bytes, two's complement, little-endian.
use Rattle.std.specs.Prelude.{FitsSigned, List, None, Option, Some, [], drop, length, suc, take, zero, ℕ, ℤ, ◌*◌, ◌+◌, ◌++◌, ◌/◌, ◌∷◌, ⊤}
use Rattle.std.specs.Int.{cast_unsigned, w32}
use Rattle.std.specs.List.{flat_map}
use Rattle.byteorder.specs.Endian.{little_bytes}

-- NULL or an INTEGER
abbrev pub IsCell : Option ℤ → Type 0
IsCell None = ⊤
IsCell (Some z) = FitsSigned w32 z

-- a cell as a number of 4 bytes, 0 for a null
abbrev pub cell_number : Option ℤ → ℕ
cell_number None = 0
cell_number (Some z) = cast_unsigned w32 z

abbrev pub cell_bytes : Option ℤ → List ℕ
cell_bytes cell = little_bytes 4 (cell_number cell)

-- 1 where a cell is non-null
abbrev pub presence : Option ℤ → ℕ
presence None = 0
presence (Some z) = 1

-- a byte whose bit i says whether cell i is non-null; spare bits are 0
abbrev pub presence_byte : List (Option ℤ) → ℕ
presence_byte [] = 0
presence_byte (cell ∷ cells) = presence cell + 2 * presence_byte cells

-- n bytes, each for the next eight cells
abbrev pub presence_bytes : ℕ → List (Option ℤ) → List ℕ
presence_bytes zero cells = []
presence_bytes (suc n) cells = presence_byte (take 8 cells) ∷ presence_bytes n (drop 8 cells)

-- how many bytes the bits of n rows take
abbrev pub presence_size : ℕ → ℕ
presence_size rows = (rows + 7) / 8

-- how many bytes a column of n rows takes
abbrev pub column_size : ℕ → ℕ
column_size rows = presence_size rows + 4 * rows

-- a column: row i is bit i mod 8 of byte i/8; then the cells
abbrev pub column_bytes : List (Option ℤ) → List ℕ
column_bytes cells = presence_bytes (presence_size (length cells)) cells ++ flat_map cell_bytes cells
