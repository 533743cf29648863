-- A column of a table file, version 2: one bit per row (cell non-null); the base, 8 bytes in two's complement; the width; and
-- one plane for each bit of the width, highest bit first, laid out like the bits of the rows. Numbers are little-endian.
use Rattle.std.specs.Prelude.{All, Bool, FitsSigned, List, None, Option, Some, [], drop, fold, if◌then◌else◌, length, map, pos, slice_index, slice_index_or, suc, take, zero, ℕ, ℤ, ⊤, ◌%◌, ◌*◌, ◌+ℤ◌, ◌+◌, ◌++◌, ◌-◌, ◌/◌, ◌<◌, ◌==◌, ◌^◌, ◌≡◌, ◌≤ℤ◌, ◌≤◌, ◌∷◌}
use Rattle.std.specs.Int.{bit_at, cast_unsigned, int_max, int_min, w64}
use Rattle.std.specs.List.{range_with_len}
use Rattle.std.specs.Simd.Lanes.{mask_l}
use Rattle.byteorder.specs.Endian.{little_bytes}
use Rattle.bw_cells.specs.Known.{known}
use Rattle.bw_mask.specs.Masks.{rows_of}
use Rattle.bw_code.specs.Encodings.{bits_of, distance}
use Rattle.bw_code.specs.Fittings.{AreEnds}
use Rattle.bw_code.specs.declared.ends.Ends.{Ends}
use Rattle.bw_code.specs.Headers.{row_limit}
use Rattle.bw_code.specs.Widths.{widest_code}
use Rattle.bw_file.specs.Cells.{presence_bytes, presence_size}
use Rattle.bw_file.specs.Reading.{HasNoSpareBit}

-- NULL or a BIGINT
abbrev pub IsWideCell : Option ℤ → Type 0
IsWideCell None = ⊤
IsWideCell (Some z) = FitsSigned w64 z

-- bit b of the distance of a cell from a base; 0 for a null
abbrev pub bit_in : ℤ → ℕ → Option ℤ → ℕ
bit_in base b None = 0
bit_in base b (Some z) = bit_at (distance z base) b

-- a byte of which bit i is that of cell i; spare bits are 0
abbrev pub bit_byte : (Option ℤ → ℕ) → List (Option ℤ) → ℕ
bit_byte bit [] = 0
bit_byte bit (cell ∷ cells) = bit cell + 2 * bit_byte bit cells

-- n bytes, each for the next eight cells
abbrev pub bit_bytes : (Option ℤ → ℕ) → ℕ → List (Option ℤ) → List ℕ
bit_bytes bit zero cells = []
bit_bytes bit (suc n) cells = bit_byte bit (take 8 cells) ∷ bit_bytes bit n (drop 8 cells)

-- the planes of k bits, each of n bytes
abbrev pub plane_bytes : ℤ → ℕ → ℕ → List (Option ℤ) → List ℕ
plane_bytes base zero size cells = []
plane_bytes base (suc b) size cells = bit_bytes (bit_in base b) size cells ++ plane_bytes base b size cells

-- the base of codes, and their width in bits
pub record Frame : Type 0 where
  pub base : ℤ
  pub width : ℕ

-- the least of some integers, and the number of bits of the distance of the greatest from it; for no integers 0 and 1
abbrev pub frame_of : List ℤ → Frame
frame_of [] = record { base = pos 0; width = 1 }
frame_of (x ∷ xs) = record { base = fold int_min x xs; width = bits_of (distance (fold int_max x xs) (fold int_min x xs)) }

abbrev pub framed_bytes : Frame → List (Option ℤ) → List ℕ
framed_bytes frame cells =
    presence_bytes (presence_size (length cells)) cells
    ++ (little_bytes 8 (cast_unsigned w64 frame.base) ++ (frame.width ∷ plane_bytes frame.base frame.width (presence_size (length cells)) cells))

abbrev pub column_bytes : List (Option ℤ) → List ℕ
column_bytes cells = framed_bytes (frame_of (known cells)) cells

-- how many bytes a column of this width and number of rows takes
abbrev pub column_size : ℕ → ℕ → ℕ
column_size width rows = 9 + (width + 1) * presence_size rows

-- bit i of plane p, of planes of n bytes
abbrev pub plane_bit : ℕ → List ℕ → ℕ → ℕ → ℕ
plane_bit size planes p i = bit_at (slice_index planes (p * size + i / 8)) (i % 8)

-- the code of row i: its bit b is in plane k - 1 - b
abbrev pub code_in : ℕ → ℕ → List ℕ → ℕ → ℕ
code_in k size planes i = mask_l (rows_of k (λ b. plane_bit size planes (k - 1 - b) i == 1))

abbrev pub read_cell : ℤ → ℕ → ℕ → List ℕ → List ℕ → ℕ → Option ℤ
read_cell base k size present planes i = if bit_at (slice_index present (i / 8)) (i % 8) == 1 then Some (base +ℤ pos (code_in k size planes i)) else None

-- the cells of the first rows
abbrev pub cells_in : ℕ → ℤ → ℕ → List ℕ → List ℕ → List (Option ℤ)
cells_in rows base k present planes = map (read_cell base k (presence_size rows) present planes) (range_with_len 0 rows)

-- no bit of a plane is set where the bit of the cell is clear
abbrev pub HasNoStrayBit : ℕ → ℕ → List ℕ → List ℕ → Type 0
HasNoStrayBit k size present planes = (p i : ℕ) → p < k → i / 8 < size → bit_at (slice_index present (i / 8)) (i % 8) ≡ 0 → plane_bit size planes p i ≡ 0

-- bits of n rows, and planes in which a bit is set only where a cell is non-null
pub record ArePlanes (rows k : ℕ) (present planes : List ℕ) : Type 0 where
  pub bits : length present ≡ presence_size rows
  pub long : length planes ≡ k * presence_size rows
  pub spare : HasNoSpareBit rows present
  pub inside : HasNoStrayBit k (presence_size rows) present planes

-- NULL, or a BIGINT whose distance from a base is a code of k bits
abbrev pub IsNear : ℤ → ℕ → Option ℤ → Type 0
IsNear base k None = ⊤
IsNear base k (Some z) = FitsSigned w64 z × (base ≤ℤ z) × (distance z base < 2 ^ k)

-- whether row i is non-null
abbrev pub has_in : List ℕ → ℕ → Bool
has_in present i = bit_at (slice_index present (i / 8)) (i % 8) == 1

-- bits and planes of n rows, the cells that are read from them with this base, and the ends of these
pub record IsPlaneColumn (rows : ℕ) (base : ℤ) (k : ℕ) (present planes : List ℕ) (ends : Option Ends) : Type 0 where
  pub few : rows ≤ row_limit
  pub narrow : k ≤ widest_code
  pub are : ArePlanes rows k present planes
  pub wide : All IsWideCell (cells_in rows base k present planes)
  pub measured : AreEnds (known (cells_in rows base k present planes)) ends

-- some cell is the base
abbrev pub HasBase : ℤ → List (Option ℤ) → Type 0
HasBase base cells = (i : ℕ) × (slice_index_or cells i None ≡ Some base)

-- the code of some cell has the highest of k bits
abbrev pub HasTop : ℤ → ℕ → List (Option ℤ) → Type 0
HasTop base k cells = (i : ℕ) × (z : ℤ) × (slice_index_or cells i None ≡ Some z) × (2 ^ (k - 1) ≤ distance z base)
