-- The values of a column in some rows, without the nulls.
use Rattle.std.specs.Prelude.{Bool, List, None, Option, false, if◌then◌else◌, is_some, pos, slice_index_or, unwrap_or, ℕ, ℤ, ◌&&◌, ◌≡◌}
use Rattle.std.specs.List.{items_where_true}
use Rattle.bw_mask.specs.Masks.{MaskRows, len, row_at}
use Rattle.bw_column.specs.Columns.{ColumnView}
use Rattle.bw_column.specs.Values.{value_at}
use Rattle.bw_cells.specs.SetFunctions.{known}

abbrev pub chosen : ColumnView → MaskRows → List ℤ
chosen column rows = known (items_where_true rows.rows column.values)

-- the selected rows whose value is non-null
pub record AreKnownRows (column : ColumnView) (rows known : MaskRows) : Type 0 where
  pub len : len known ≡ len rows
  pub each : (r : ℕ) → row_at known r ≡ (row_at rows r && is_some (value_at column.values r))

-- the value of a selected row; 0 if it is null, or the row isn't selected
abbrev pub value_in : List Bool → List (Option ℤ) → ℕ → ℤ
value_in rows values r = unwrap_or (if slice_index_or rows r false then value_at values r else None) (pos 0)
