-- Codes by a digit: some of their bits, just below those that are known to be the same.
use Rattle.std.specs.Prelude.{Bool, List, count_by, slice_index, take, ℕ, ◌&&◌, ◌+◌, ◌<◌, ◌==◌, ◌≡◌, ◌≤◌}
use Rattle.std.specs.List.{items_where_true}
use Rattle.bw_mask.specs.Masks.{MaskRows, len, row_at}
use Rattle.bw_aggregate.specs.Descents.{front}

-- the code without its lowest i bits is one of `many` numbers from `first` on
pub record IsAmong (i first many code : ℕ) : Type 0 where
  pub from : first ≤ front i code
  pub upto : front i code < first + many

-- the number of selected rows before row n whose code without its lowest i bits is x
abbrev pub front_count : List Bool → List ℕ → ℕ → ℕ → ℕ → ℕ
front_count rows codes n i x = count_by (λ c. front i c == x) (items_where_true (take n rows) (take n codes))

-- the rows that are left are those whose code without its lowest i bits is `found`
pub record AreLeft (rows : MaskRows) (codes : List ℕ) (i found : ℕ) (left : MaskRows) : Type 0 where
  pub len : len left ≡ len rows
  pub each : (r : ℕ) → row_at left r ≡ (row_at rows r && (front i (slice_index codes r) == found))
