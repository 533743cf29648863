-- What a column has prepared to take values.
use Rattle.std.specs.Prelude.{Bool, List, Option, if◌then◌else◌, length, ⊤, ℕ, ℤ, ◌+◌, ◌++◌, ◌<◌, ◌^◌, ◌≡◌, ◌≤◌}
use Rattle.std.specs.List.{All}
use Rattle.bw_mask.specs.Masks.{len, row_at}
use Rattle.bw_code.specs.Encodings.{IsEncoding, IsFit, kind_of, width}
use Rattle.bw_code.specs.declared.encoding.Encoding.{Encoding}
use Rattle.bw_code.specs.declared.encoding.Encoding.TheVariants as by
use Rattle.bw_code.specs.declared.kind.Kind.TheVariants as kind
use Rattle.bw_column.specs.Codes.{IsCoded, code_for, codes_for}
use Rattle.bw_column.specs.Columns.{ColumnView}
use Rattle.bw_column.specs.Keeping.{AreKept}
use Rattle.bw_column.specs.Storing.{ShiftsTo}
use Rattle.bw_column.specs.Values.{IsNullOrHeld, known, value_at, widest}
use Rattle.bw_column.specs.declared.kept.KeptCodes.{KeptCodes}
use Rattle.bw_column.specs.declared.step.Step.{Step}
use Rattle.bw_column.specs.declared.entry_step.Raise.{Raise as RaiseView}
use Rattle.bw_column.specs.declared.step.Step.TheVariants.{Raise, Replace, Shift, Stay}

-- the step that comes first, and the codes that are kept
pub record Preparation : Type 0 where
  pub step : Step
  pub codes : KeptCodes

-- the encoding in which a column takes values: its own where each of them has a code, else one of its kind that fits all its
-- values and these
pub record IsEncodingFor (old : List (Option ℤ)) (own : Encoding) (values : List (Option ℤ)) (e : Encoding) : Type 0 where
  pub stays : All (IsCoded own) values → e ≡ own
  pub anew : (All (IsCoded own) values → ⊥) → IsFit (known (old ++ values)) e × (kind_of e ≡ kind_of own)

-- the column after a step: unchanged, rebased, with another dictionary, or replaced by another
abbrev pub after : ColumnView → Step → ColumnView
after column Stay = column
after column (Shift offset) = record { values = column.values; layout = column.layout; encoding = by.Offset offset; room = column.room }
after column (Raise raise) = record { values = column.values; layout = column.layout; encoding = raise.encoding; room = column.room }
after column (Replace other) = other

-- another encoding of the same width has a code for each value: by one more in the rows above, and the same in the others
pub record CanRaise (column : ColumnView) (raise : RaiseView) : Type 0 where
  pub sound : IsEncoding raise.encoding
  pub width : width raise.encoding ≡ width column.encoding
  pub rows : len raise.above ≡ length column.values
  pub coded : All (IsCoded raise.encoding) column.values
  pub codes : (i : ℕ) → i < length column.values → code_for raise.encoding (value_at column.values i) ≡ code_for column.encoding (value_at column.values i) + (if row_at raise.above i then 1 else 0)

-- codes can be rebased where their layout allows it, they are distances, and each value has a code from the new base that the
-- layout holds
abbrev pub CanTake : ColumnView → Step → Type 0
CanTake column (Shift offset) = ShiftsTo column.layout (width column.encoding) offset.width × (kind_of column.encoding ≡ kind.Offset) × All (IsCoded (by.Offset offset)) column.values × (offset.width ≤ widest column.layout)
CanTake column (Raise raise) = CanRaise column raise
CanTake column other = ⊤

-- by how many values a column grows
abbrev pub more : Bool → List (Option ℤ) → ℕ
more grow values = if grow then length values else 0

-- what is prepared lets the column in its present state take these values, at its end where it is to grow
pub record IsPreparedFor (column : ColumnView) (values : List (Option ℤ)) (grow : Bool) (prepared : Preparation) : Type 0 where
  pub can : CanTake column prepared.step
  pub same : (after column prepared.step).values ≡ column.values
  pub layout : (after column prepared.step).layout ≡ column.layout
  pub encoding : IsEncodingFor column.values column.encoding values (after column prepared.step).encoding
  pub coded : All (IsCoded (after column prepared.step).encoding) values
  pub codes : AreKept (codes_for (after column prepared.step).encoding values) prepared.codes
  pub held : All (IsNullOrHeld column.layout) values
  pub few : length column.values + more grow values ≤ 2 ^ 24
  pub room : length column.values + more grow values ≤ (after column prepared.step).room
