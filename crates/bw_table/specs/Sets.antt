-- Columns that are set in the rows of a mask, in two steps, and columns rebuilt from such rows.
use Rattle.std.specs.Prelude.{List, None, Option, Some, [], count_by, drop, false, length, map, replicate, slice_index_or, ⊤, ℕ, ℤ, ◌+◌, ◌<◌, ◌≡◌, ◌≢◌}
use Rattle.std.specs.List.{All, filter, range_with_len}
use Rattle.bw_mask.specs.Masks.{MaskRows, bit_of}
use Rattle.bw_code.specs.Encodings.{IsFit, kind_of}
use Rattle.bw_code.specs.declared.header.Header.{Header}
use Rattle.bw_column.specs.Columns.{ColumnView, Keeps}
use Rattle.bw_code.specs.declared.kind.Kind.{Kind}
use Rattle.bw_column.specs.Copies.{CanCopy, IsCopyPreparedFor, IsMasked}
use Rattle.bw_column.specs.Places.{chosen_values, overwritten}
use Rattle.bw_column.specs.Preparing.{IsEncodingFor, IsPreparedFor}
use Rattle.bw_column.specs.Values.{known, value_at}
use Rattle.bw_table.specs.Changes.{choice_of, chosen_kind, chosen_layout, places, set_of, value_for}
use Rattle.bw_table.specs.Slots.{row_of}
use Rattle.bw_table.specs.declared.choice.Choice.{Choice}
use Rattle.bw_table.specs.declared.setting.Change.{Change}
use Rattle.bw_table.specs.declared.setting.Change.TheVariants.{Copy, Take}
use Rattle.bw_table.specs.declared.setting.SetTo.{SetTo}
use Rattle.bw_table.specs.declared.setting.SetTo.TheVariants.{Column, Value}
use Rattle.bw_table.specs.declared.taking.PreparedValues.{PreparedValues}
use Rattle.bw_table.specs.declared.taking.PreparedValues.TheVariants as ready
use Rattle.bw_table.specs.declared.taking.Taken.{Taken}
use Rattle.bw_table.specs.declared.taking.Taken.TheVariants.{Copied, Each, Same}

-- a column that another is set to exists
abbrev pub IsThere : ℕ → SetTo → Type 0
IsThere columns (Value x) = ⊤
IsThere columns (Column k) = k < columns

-- what a column is set to in the rows of a mask, in order
abbrev pub gathered : List ColumnView → MaskRows → SetTo → List (Option ℤ)
gathered columns mask to = map (λ i. value_for to (row_of columns i)) (places mask)

-- the values of a run whose bit is set, in order
abbrev pub picked : ℕ → List (Option ℤ) → List (Option ℤ)
picked rows run = map (value_at run) (filter (bit_of rows) (range_with_len 0 (length run)))

-- the values for the rows of a mask
abbrev pub taken : MaskRows → Taken → List (Option ℤ)
taken mask (Each values) = values.items
taken mask (Same value) = replicate (count_by (λ row. row) mask.rows) value
taken mask (Copied column) = chosen_values mask column.values

-- a copy is null outside of the mask's rows, and of this kind
abbrev pub FitsCopy : Kind → MaskRows → Taken → Type 0
FitsCopy kind mask (Each values) = ⊤
FitsCopy kind mask (Same value) = ⊤
FitsCopy kind mask (Copied copy) = (kind_of copy.encoding ≡ kind) × IsMasked mask copy.values

-- the same values, prepared for
abbrev pub prepared_values : MaskRows → PreparedValues → List (Option ℤ)
prepared_values mask (ready.Each prepared values) = values.items
prepared_values mask (ready.Same prepared value) = replicate (count_by (λ row. row) mask.rows) value
prepared_values mask (ready.Copied prepared) = chosen_values mask prepared.copy.values

-- the column as it is is prepared for the values
abbrev pub IsReadyFor : ColumnView → MaskRows → PreparedValues → Type 0
IsReadyFor column mask (ready.Each prepared values) = IsPreparedFor column values.items false prepared
IsReadyFor column mask (ready.Same prepared value) = IsPreparedFor column (replicate (count_by (λ row. row) mask.rows) value) false prepared
IsReadyFor column mask (ready.Copied prepared) = IsCopyPreparedFor column mask prepared

-- the values are those of the set, and the column as it is is prepared for them
pub record IsPreparedIn (columns : List ColumnView) (found : MaskRows) (set : ℕ × SetTo) (own : PreparedValues) : Type 0 where
  pub values : prepared_values found own ≡ gathered columns found set.1
  pub ready : (c : ColumnView) → IsReadyFor (slice_index_or columns set.0 c) found own

-- the set is to this other column, which no later set is of, and whose codes will do
pub record IsCopied (columns : List ColumnView) (later : List (ℕ × SetTo)) (set : ℕ × SetTo) (from : ℕ) : Type 0 where
  pub is : set.1 ≡ Column from
  pub there : from < length columns
  pub apart : set.0 ≢ from
  pub unset : All (λ other. other.0 ≢ from) later
  pub can : (c : ColumnView) → CanCopy (slice_index_or columns set.0 c) (slice_index_or columns from c)

-- the change is that of the set, and its column as it is is ready for it; the sets after it are made before it
abbrev pub IsReady : List ColumnView → MaskRows → List (ℕ × SetTo) → ℕ × SetTo → Change → Type 0
IsReady columns found later set (Take ready) = IsPreparedIn columns found set ready
IsReady columns found later set (Copy from) = IsCopied columns later set from

abbrev pub AreReadyFor : List ColumnView → MaskRows → List (ℕ × SetTo) → List Change → Type 0
AreReadyFor columns found sets changes = (j : ℕ) (s : ℕ × SetTo) (d : Change) → j < length changes → IsReady columns found (drop (j + 1) sets) (slice_index_or sets j s) (slice_index_or changes j d)

-- a column is ready to take these values
pub record CanTakeIn (columns : List ColumnView) (found : MaskRows) (k : ℕ) (ready : PreparedValues) : Type 0 where
  pub prepared : (c : ColumnView) → IsReadyFor (slice_index_or columns k c) found ready
  pub count : count_by (λ row. row) found.rows ≡ length (prepared_values found ready)

-- a column is ready to take the values of another one
pub record CanCopyIn (columns : List ColumnView) (k from : ℕ) : Type 0 where
  pub there : from < length columns
  pub apart : k ≢ from
  pub can : (c : ColumnView) → CanCopy (slice_index_or columns k c) (slice_index_or columns from c)

-- a change can be made of a column as all columns are
abbrev pub CanApply : List ColumnView → MaskRows → ℕ → Change → Type 0
CanApply columns found k (Take ready) = CanTakeIn columns found k ready
CanApply columns found k (Copy from) = CanCopyIn columns k from

-- the values of a change, in order
abbrev pub changed : List ColumnView → MaskRows → Change → List (Option ℤ)
changed columns found (Take ready) = prepared_values found ready
changed columns found (Copy from) = gathered columns found (Column from)

-- the values are written in the found rows
pub record IsWritten (new old : ColumnView) (found : MaskRows) (values : List (Option ℤ)) : Type 0 where
  pub values_are : new.values ≡ overwritten found values old.values
  pub layout : new.layout ≡ old.layout
  pub encoding : IsEncodingFor old.values old.encoding values new.encoding

-- and no other column changes
pub record IsWrittenIn (new old : List ColumnView) (k : ℕ) (found : MaskRows) (values : List (Option ℤ)) : Type 0 where
  pub count : length new ≡ length old
  pub here : (c : ColumnView) → IsWritten (slice_index_or new k c) (slice_index_or old k c) found values
  pub other : (j : ℕ) (c : ColumnView) → j ≢ k → slice_index_or new j c ≡ slice_index_or old j c

-- a column that is set has its values, and any other stays as it is
abbrev pub IsSet : List ColumnView → MaskRows → Option SetTo → ColumnView → ColumnView → Type 0
IsSet columns found None new old = Keeps new old
IsSet columns found (Some to) new old = IsWritten new old found (gathered columns found to)

pub record AllSet (found : MaskRows) (sets : List (ℕ × SetTo)) (new old : List ColumnView) : Type 0 where
  pub count : length new ≡ length old
  pub each : (k : ℕ) (d : ColumnView) → IsSet old found (set_of sets k) (slice_index_or new k d) (slice_index_or old k d)

-- column k rebuilt from its values in the rows of a mask, with the choices applied
pub record IsBuilt (mask : MaskRows) (choices : List (ℕ × Choice)) (columns : List ColumnView) (k : ℕ) (new old : ColumnView) : Type 0 where
  pub values : new.values ≡ gathered columns mask (Column k)
  pub layout : new.layout ≡ chosen_layout (choice_of choices k) old.layout
  pub fits : IsFit (known (gathered columns mask (Column k))) new.encoding
  pub kind : kind_of new.encoding ≡ chosen_kind (choice_of choices k) (kind_of old.encoding)

pub record AllBuilt (mask : MaskRows) (choices : List (ℕ × Choice)) (new old : List ColumnView) : Type 0 where
  pub count : length new ≡ length old
  pub each : (k : ℕ) (d : ColumnView) → k < length old → IsBuilt mask choices old k (slice_index_or new k d) (slice_index_or old k d)

-- an empty column, in the layout and of the kind in its header
pub record IsEmptyAs {N : Type 0} (header : Header N) (column : ColumnView) : Type 0 where
  pub values : column.values ≡ []
  pub layout : column.layout ≡ header.layout
  pub kind : kind_of column.encoding ≡ header.kind
  pub fits : IsFit [] column.encoding

pub record AreEmpty {N : Type 0} (headers : List (Header N)) (columns : List ColumnView) : Type 0 where
  pub count : length columns ≡ length headers
  pub each : (k : ℕ) (h : Header N) (d : ColumnView) → k < length headers → IsEmptyAs (slice_index_or headers k h) (slice_index_or columns k d)
