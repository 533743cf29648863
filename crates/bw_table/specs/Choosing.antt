-- The rows of a mask, counted word by word.
use Rattle.std.specs.Prelude.{List, length, slice_index, ℕ, ◌*◌, ◌+◌, ◌<◌, ◌≡◌, ◌≤◌}
use Rattle.bw_mask.specs.Masks.{MaskRows, len}
use Rattle.bw_table.specs.Changes.{places_below}

-- for each word of 64 rows, how many rows of the mask are before it
pub record AreCounts (mask : MaskRows) (counts : List ℕ) : Type 0 where
  pub covers : len mask ≤ 64 * length counts
  pub whole : 64 * length counts < len mask + 64
  pub each : (w : ℕ) → w < length counts → slice_index counts w ≡ length (places_below mask (64 * w))
