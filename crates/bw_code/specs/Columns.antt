-- A column of codes: the width of a code in bits, the codes, and the capacity in codes.
use Rattle.std.specs.Prelude.{Bool, List, if◌then◌else◌, length, nat_le, slice_index, ℕ, ◌&&◌, ◌-◌, ◌<◌, ◌^◌, ◌≡◌, ◌≤◌}
use Rattle.std.specs.List.{All}
use Rattle.bw_mask.specs.Masks.{bit_of}
use Rattle.bw_code.specs.Lists.{made}
use Rattle.bw_code.specs.Widths.{widest_code, widest_half}

pub record CodeList : Type 0 where
  pub width : ℕ
  pub codes : List ℕ
  pub room : ℕ

-- how many codes there are
abbrev pub count : CodeList → ℕ
count column = length column.codes

-- the code of a row; 0 past the last
abbrev pub code_at : CodeList → ℕ → ℕ
code_at column i = slice_index column.codes i

-- the codes fit the width
abbrev pub Fit : ℕ → List ℕ → Type 0
Fit width codes = All (λ code. code < 2 ^ width) codes

-- the width stays, and the room is no less
pub record KeepsShape (new old : CodeList) : Type 0 where
  pub width : new.width ≡ old.width
  pub room : old.room ≤ new.room

-- a plain list of codes of at most 32 bits
pub record ArePlain (width : ℕ) (codes : List ℕ) : Type 0 where
  pub some : 1 ≤ width
  pub narrow : width ≤ widest_half
  pub few : length codes ≤ 2 ^ 24
  pub fit : Fit width codes

-- a plain list of codes of at most 64 bits
pub record AreWide (width : ℕ) (codes : List ℕ) : Type 0 where
  pub some : 1 ≤ width
  pub narrow : width ≤ widest_code
  pub few : length codes ≤ 2 ^ 24
  pub fit : Fit width codes

-- whether row j is among the rows from `at` on whose bit is set in a word: row at + i has bit i
abbrev pub is_chosen : ℕ → ℕ → ℕ → Bool
is_chosen at rows j = nat_le at j && bit_of rows (j - at)

-- the codes after those of the chosen rows were replaced, each by the code at the index of its bit; the others stay
abbrev pub put_codes : List ℕ → ℕ → ℕ → List ℕ → List ℕ
put_codes old at rows codes = made (length old) (λ j. if is_chosen at rows j then slice_index codes (j - at) else slice_index old j)

-- the codes after those of the chosen rows were replaced by this one; the others stay
abbrev pub filled_codes : List ℕ → ℕ → ℕ → ℕ → List ℕ
filled_codes old at rows code = made (length old) (λ j. if is_chosen at rows j then code else slice_index old j)
