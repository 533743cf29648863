-- Two columns of which each takes the other's values.
use Rattle.std.specs.Prelude.{List, None, Some, length, slice_index_or, ℕ, ◌<◌, ◌≡◌, ◌≢◌}
use Rattle.bw_mask.specs.Masks.{MaskRows}
use Rattle.bw_column.specs.Columns.{ColumnView}
use Rattle.bw_table.specs.Changes.{set_of}
use Rattle.bw_table.specs.Sets.{IsWritten, gathered}
use Rattle.bw_table.specs.declared.column_pair.ColumnPair.{ColumnPair}
use Rattle.bw_table.specs.declared.setting.SetTo.{SetTo}
use Rattle.bw_table.specs.declared.setting.SetTo.TheVariants.{Column}

-- two columns of one layout and encoding, each of which is set to the other, while no other column is set
pub record AreExchangedBy (sets : List (ℕ × SetTo)) (columns : List ColumnView) (pair : ColumnPair) : Type 0 where
  pub there : pair.second < length columns
  pub first : set_of sets pair.first ≡ Some (Column pair.second)
  pub second : set_of sets pair.second ≡ Some (Column pair.first)
  pub alone : (k : ℕ) → k ≢ pair.first → k ≢ pair.second → set_of sets k ≡ None
  pub layout : (c : ColumnView) → (slice_index_or columns pair.second c).layout ≡ (slice_index_or columns pair.first c).layout
  pub encoding : (c : ColumnView) → (slice_index_or columns pair.second c).encoding ≡ (slice_index_or columns pair.first c).encoding

-- each of the two has the values that the other had in the found rows, and no other column changes
pub record AreExchanged (found : MaskRows) (pair : ColumnPair) (new old : List ColumnView) : Type 0 where
  pub count : length new ≡ length old
  pub first : (c : ColumnView) → IsWritten (slice_index_or new pair.first c) (slice_index_or old pair.first c) found (gathered old found (Column pair.second))
  pub second : (c : ColumnView) → IsWritten (slice_index_or new pair.second c) (slice_index_or old pair.second c) found (gathered old found (Column pair.first))
  pub other : (j : ℕ) (c : ColumnView) → j ≢ pair.first → j ≢ pair.second → slice_index_or new j c ≡ slice_index_or old j c
