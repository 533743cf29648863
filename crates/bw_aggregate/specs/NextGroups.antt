-- The next of the groups of rows by a column's values: that of the least non-null value or, if there is none, of null.
use Rattle.std.specs.Prelude.{None, Option, Some, false, not, true, ℕ, ℤ, ◌&&◌, ◌≡◌}
use Rattle.std.specs.List.{list_any}
use Rattle.std.specs.Option.{option_eq}
use Rattle.std.specs.Ordering.{int_eq}
use Rattle.bw_mask.specs.Masks.{MaskRows, len, row_at}
use Rattle.bw_column.specs.Columns.{ColumnView}
use Rattle.bw_column.specs.Values.{value_at}
use Rattle.bw_cells.specs.SetFunctions.{least}
use Rattle.bw_aggregate.specs.Chosen.{chosen}

-- of the remaining rows, at least one, those with the least value form the group, and the others still remain; two values are the
-- same if they are equal, or both null
pub record AreParted (column : ColumnView) (before after : MaskRows) (value : Option ℤ) (group : MaskRows) : Type 0 where
  pub some : list_any (λ row. row) before.rows ≡ true
  pub least_is : value ≡ least (chosen column before)
  pub group_len : len group ≡ len before
  pub group_rows : (r : ℕ) → row_at group r ≡ (row_at before r && option_eq int_eq (value_at column.values r) value)
  pub rest_len : len after ≡ len before
  pub rest_rows : (r : ℕ) → row_at after r ≡ (row_at before r && not (option_eq int_eq (value_at column.values r) value))

-- no row remained, or the next group is taken
abbrev pub IsNextGroup : ColumnView → MaskRows → MaskRows → Option (Option ℤ × MaskRows) → Type 0
IsNextGroup column before after None = (after ≡ before) × (list_any (λ row. row) before.rows ≡ false)
IsNextGroup column before after (Some next) = AreParted column before after next.0 next.1
