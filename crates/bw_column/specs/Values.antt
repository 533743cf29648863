-- The values of a column: integers and nulls.
use Rattle.std.specs.Prelude.{FitsSigned, List, None, Option, Some, slice_index_or, ⊤, ℕ, ℤ}
use Rattle.std.specs.Int.{w32, w64}
use Rattle.bw_code.specs.declared.kind.Layout.{Layout}
use Rattle.bw_code.specs.declared.kind.Layout.TheVariants as layouts
-- the non-null values
pub use Rattle.bw_cells.specs.Known.{known}
-- the greatest width of a code, in bits
pub use Rattle.bw_code.specs.Widths.{widest}

-- the integers that some layout holds: those of 64 bits
abbrev pub IsStorable : ℤ → Type 0
IsStorable x = FitsSigned w64 x

abbrev pub IsNullOrStorable : Option ℤ → Type 0
IsNullOrStorable None = ⊤
IsNullOrStorable (Some x) = IsStorable x

-- the integers that a column in a layout may hold: those of 32 bits in BitWeaving/H, those of 64 bits in the others
abbrev pub IsHeld : Layout → ℤ → Type 0
IsHeld layouts.P x = FitsSigned w64 x
IsHeld layouts.V x = FitsSigned w64 x
IsHeld layouts.H x = FitsSigned w32 x
IsHeld layouts.S x = FitsSigned w64 x

abbrev pub IsNullOrHeld : Layout → Option ℤ → Type 0
IsNullOrHeld layout None = ⊤
IsNullOrHeld layout (Some x) = IsHeld layout x

-- the value of a row; null after the last row
abbrev pub value_at : List (Option ℤ) → ℕ → Option ℤ
value_at values i = slice_index_or values i None
