-- A change of all columns in two steps: first every allocation, then the writes, which can't fail.
use Rattle.std.specs.Prelude.{List, Option, length, slice_index_or, true, ℕ, ℤ, ◌++◌, ◌<◌, ◌≡◌, ◌≤◌}
use Rattle.bw_column.specs.Columns.{ColumnView, Keeps}
use Rattle.bw_column.specs.Preparing.{IsEncodingFor, IsPreparedFor, Preparation}
use Rattle.bw_table.specs.Slots.{column_of}

-- a column took these values at its end
pub record IsMade (new old : ColumnView) (more : List (Option ℤ)) : Type 0 where
  pub values : new.values ≡ old.values ++ more
  pub layout : new.layout ≡ old.layout
  pub encoding : IsEncodingFor old.values old.encoding more new.encoding

-- all columns stay as they are, except for their room
pub record AllKept (new old : List ColumnView) : Type 0 where
  pub count : length new ≡ length old
  pub each : (k : ℕ) (d : ColumnView) → Keeps (slice_index_or new k d) (slice_index_or old k d)

-- the first n columns, as they are, are prepared for their values of these rows
abbrev pub AreReadyBelow : ℕ → List (List (Option ℤ)) → List ColumnView → List Preparation → Type 0
AreReadyBelow n rows columns prepared = (k : ℕ) (c : ColumnView) (d : Preparation) → k < n → IsPreparedFor (slice_index_or columns k c) (column_of rows k) true (slice_index_or prepared k d)

-- the columns from n on took their values of these rows
abbrev pub AllMadeFrom : ℕ → List (List (Option ℤ)) → List ColumnView → List ColumnView → Type 0
AllMadeFrom n rows new old = (k : ℕ) (c : ColumnView) → n ≤ k → k < length old → IsMade (slice_index_or new k c) (slice_index_or old k c) (column_of rows k)
