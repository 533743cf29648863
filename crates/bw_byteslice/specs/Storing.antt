-- Codes of k bits as slices in memory: byte j of slice i is byte i of the shifted code of row j. Slices hold whole segments of 32
-- rows; rows past the last are 0.
use Rattle.std.specs.Prelude.{List, [], ◌∷◌, drop, length, map, min, slice_index, slice_index_or, take, vec_capacity, ℕ, ◌%◌, ◌*◌, ◌/◌, ◌<◌, ◌^◌, ◌≡◌, ◌≤◌}
use Rattle.std.specs.Global.{Vec}
use Rattle.bw_code.specs.Lists.{made}
use Rattle.bw_code.specs.Units.{segments_of}
use Rattle.bw_code.specs.Widths.{widest_code}
use Rattle.bw_byteslice.specs.Slices.{number_of, shift_of, slices_of}

-- the bytes of each slice
abbrev pub bytes_of : List (Vec ℕ) → List (List ℕ)
bytes_of slices = map (λ slice. slice.items) slices

-- the capacity of each slice in bytes
abbrev pub capacities_of : List (Vec ℕ) → List ℕ
capacities_of slices = map (λ slice. vec_capacity slice) slices

-- byte i of row j
abbrev pub byte_of : List (List ℕ) → ℕ → ℕ → ℕ
byte_of slices j i = slice_index (slice_index_or slices i []) j

-- the number of row j: its code, shifted left
abbrev pub number_at : ℕ → List (List ℕ) → ℕ → ℕ
number_at m slices j = number_of m (byte_of slices j)

-- the code of row j
abbrev pub code_of : ℕ → List (List ℕ) → ℕ → ℕ
code_of k slices j = number_at (slices_of k) slices j / 2 ^ shift_of k

-- how many rows slices of these capacities have room for: whole segments, and at most 2^24 rows
unfoldable pub room_of : List ℕ → ℕ
room_of [] = 2 ^ 24
room_of (capacity ∷ rest) = min (32 * (capacity / 32)) (room_of rest)

-- slices of equal length
abbrev pub AreEven : List (List ℕ) → Type 0
AreEven slices = (i : ℕ) → i < length slices → length (slice_index_or slices i []) ≡ length (slice_index_or slices 0 [])

-- the units of slices, each 32 bytes of one slice: with m slices, unit q * m + i belongs to slice i
abbrev pub units_of : List (List ℕ) → List (List ℕ)
units_of slices = made (length (slice_index_or slices 0 []) / 32 * length slices) (λ u. take 32 (drop (32 * (u / length slices)) (slice_index_or slices (u % length slices) [])))

-- slices whose units are read, and how many reads there were
pub record Reading : Type 0 where
  pub slices : List (List ℕ)
  pub reads : ℕ

-- a segment and its first unit
pub record IsInPlace (slices : List (List ℕ)) (q start : ℕ) : Type 0 where
  pub even : AreEven slices
  pub place : start ≡ q * length slices

-- the slices of n codes
pub record AreSlices (k n : ℕ) (slices : List (List ℕ)) : Type 0 where
  pub some : 1 ≤ k
  pub narrow : k ≤ widest_code
  pub few : n ≤ 2 ^ 24
  pub count : length slices ≡ slices_of k
  pub long : (i : ℕ) → i < slices_of k → length (slice_index_or slices i []) ≡ 32 * segments_of 32 n
  pub bytes : (i j : ℕ) → byte_of slices j i < 256
  pub spare : (j : ℕ) → number_at (slices_of k) slices j % 2 ^ shift_of k ≡ 0
  pub clean : (j : ℕ) → n ≤ j → number_at (slices_of k) slices j ≡ 0
