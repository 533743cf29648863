-- The result of one pass over the codes of rows.
use Rattle.std.specs.Prelude.{Bool, List, None, if◌then◌else◌, is_some, length, slice_index, sum, true, ℕ, ◌&&◌, ◌-◌, ◌<◌, ◌^◌, ◌≡◌}
use Rattle.std.specs.List.{items_where_true}
use Rattle.bw_mask.specs.Masks.{MaskRows, row_at}
use Rattle.bw_code.specs.Encodings.{width}
use Rattle.bw_column.specs.Codes.{codes_for}
use Rattle.bw_column.specs.Columns.{ColumnView}
use Rattle.bw_column.specs.Values.{value_at}
use Rattle.bw_cells.specs.SetFunctions as functions
use Rattle.bw_aggregate.specs.Chosen.{chosen}
use Rattle.bw_aggregate.specs.Ends.{AreNearest}
use Rattle.bw_aggregate.specs.declared.end.Distances.{Distances}
use Rattle.bw_aggregate.specs.declared.tally.Tally.{Tally}
use Rattle.bw_aggregate.specs.declared.telling.Told.{Told}

-- the sum of the codes of rows, if it is asked for, and the least distance of the known ones from each end
pub record IsTally (sum_asked : Bool) (rows : List Bool) (known : ℕ → Bool) (codes : List ℕ) (top : ℕ) (far : Distances) (tally : Tally) : Type 0 where
  pub small : tally.sum < 2 ^ 89
  pub sum : sum_asked ≡ true → tally.sum ≡ sum (items_where_true rows codes)
  pub nearest : AreNearest (length codes) known (slice_index codes) top far tally.nearest

-- the sum of the values of rows, if it is asked for, and the least distance of their codes from each end
pub record IsTold (column : ColumnView) (rows : MaskRows) (sum_asked : Bool) (far : Distances) (told : Told) : Type 0 where
  pub sum : told.sum ≡ (if sum_asked then functions.sum (chosen column rows) else None)
  pub nearest : AreNearest (length (codes_for column.encoding column.values)) (λ r. row_at rows r && is_some (value_at column.values r)) (slice_index (codes_for column.encoding column.values)) (2 ^ width column.encoding - 1) far told.nearest
