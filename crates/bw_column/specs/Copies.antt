-- Values that a column copies from those that another column has in the rows of a mask.
use Rattle.std.specs.Prelude.{List, None, Option, false, if◌then◌else◌, length, ℕ, ℤ, ◌≡◌}
use Rattle.std.specs.List.{All}
use Rattle.bw_mask.specs.Masks.{MaskRows, len, row_at}
use Rattle.bw_code.specs.Encodings.{kind_of}
use Rattle.bw_code.specs.Lists.{made}
use Rattle.bw_code.specs.declared.kind.Kind.{Kind}
use Rattle.bw_code.specs.declared.kind.Kind.TheVariants as kind
use Rattle.bw_code.specs.declared.kind.Layout.{Layout}
use Rattle.bw_code.specs.declared.kind.Layout.TheVariants as layouts
use Rattle.bw_column.specs.Codes.{IsCoded}
use Rattle.bw_column.specs.Columns.{ColumnView}
use Rattle.bw_column.specs.Moves.{IsMoved}
use Rattle.bw_column.specs.Places.{chosen_values}
use Rattle.bw_column.specs.Preparing.{IsPreparedFor, Preparation, after}
use Rattle.bw_column.specs.declared.copying.CopiedCodes.{CopiedCodes}
use Rattle.bw_column.specs.declared.copying.CopiedCodes.TheVariants.{Distances, Moved}
use Rattle.bw_column.specs.declared.kept.KeptCodes.TheVariants as kept
use Rattle.bw_column.specs.declared.step.Step.{Step}
use Rattle.bw_column.specs.Values.{value_at}

-- the values in the rows of a mask, and null in every other row
abbrev pub masked : MaskRows → List (Option ℤ) → List (Option ℤ)
masked places values = made (length values) (λ i. if row_at places i then value_at values i else None)

-- values for the rows of a mask, null in every row that is not in it
pub record IsMasked (places : MaskRows) (values : List (Option ℤ)) : Type 0 where
  pub long : length values ≡ len places
  pub null : (i : ℕ) → row_at places i ≡ false → value_at values i ≡ None

-- distances in planes or slices are copied to the same layout, and all other codes to plain ones
abbrev pub layout_of_copy : Layout → Kind → Layout
layout_of_copy layouts.V kind.Offset = layouts.V
layout_of_copy layouts.S kind.Offset = layouts.S
layout_of_copy layout by = layouts.P

-- a copy, the step before its values are taken, and the codes by which they are
pub record CopyPreparation : Type 0 where
  pub step : Step
  pub codes : CopiedCodes
  pub copy : ColumnView

-- the codes of a copy's values in a column as it is after a step: distances where it is of kind OFFSET, or found in the table
abbrev pub FitsAfter : ColumnView → Step → ColumnView → CopiedCodes → Type 0
FitsAfter column step copy Distances = kind_of (after column step).encoding ≡ kind.Offset
FitsAfter column step copy (Moved moves) = All (IsMoved copy.encoding (after column step).encoding moves.items) copy.values

-- a step, and no codes that are kept
abbrev pub step_alone : Step → Preparation
step_alone step = record { step = step; codes = kept.Distances }

-- what is prepared lets the column in its present state take the copy's values in the rows of a mask
pub record IsCopyPreparedFor (column : ColumnView) (places : MaskRows) (prepared : CopyPreparation) : Type 0 where
  pub masked : IsMasked places prepared.copy.values
  pub fits : FitsAfter column prepared.step prepared.copy prepared.codes
  pub ready : IsPreparedFor column (chosen_values places prepared.copy.values) false (step_alone prepared.step)

-- a column can take any of another column's values by their codes as they are: both are of kind OFFSET, its layout holds what
-- the other's holds, and each of those values has a code in it
pub record CanCopy (column other : ColumnView) : Type 0 where
  pub own : kind_of column.encoding ≡ kind.Offset
  pub kind_is : kind_of other.encoding ≡ kind.Offset
  pub layout : column.layout ≡ layouts.H → other.layout ≡ layouts.H
  pub coded : All (IsCoded column.encoding) other.values
