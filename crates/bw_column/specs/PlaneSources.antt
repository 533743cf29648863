-- The planes of a column's codes, as they are read.
use Rattle.std.specs.Prelude.{List, None, Option, [], is_some, length, map, slice_index, slice_index_or, ℕ, ℤ, ◌*◌, ◌+◌, ◌-◌, ◌<◌, ◌≡◌}
use Rattle.bw_cells.specs.Distances.{distance_from}
use Rattle.bw_mask.specs.Masks.{bit_of, row_in}
use Rattle.bw_code.specs.Columns.{CodeList, code_at, count}
use Rattle.bw_code.specs.Units.{segments_of}
use Rattle.bw_column.specs.declared.column_planes.ColumnPlanes.{ColumnPlanes}
use Rattle.bw_column.specs.declared.column_planes.ColumnPlanes.TheVariants as planes

abbrev pub units_in : ColumnPlanes → List (List ℕ)
units_in (planes.V source) = source.units
units_in (planes.S source) = source.units

abbrev pub reads_in : ColumnPlanes → ℕ
reads_in (planes.V source) = source.reads
reads_in (planes.S source) = source.reads

-- planes that hold the codes of a column, none of them read yet
pub record HoldsCodes (codes : CodeList) (source : ColumnPlanes) : Type 0 where
  pub units : length (units_in source) ≡ segments_of 256 (count codes) * codes.width
  pub rows : (q i r : ℕ) → q < segments_of 256 (count codes) → i < codes.width → r < 256
      → row_in (slice_index_or (units_in source) (q * codes.width + i) []) r ≡ bit_of (code_at codes (256 * q + r)) (codes.width - 1 - i)
  pub unread : reads_in source ≡ 0

-- planes that hold the distances of some cells from a base, row by row, and words that say which of the cells are non-null
pub record ArePlanesOf (k : ℕ) (base : ℤ) (cells : List (Option ℤ)) (block : List (List ℕ)) (there : List ℕ) : Type 0 where
  pub planes : (b r : ℕ) → b < k → r < 2048 → row_in (slice_index_or block b []) r ≡ bit_of (slice_index (map (distance_from base) cells) r) b
  pub present : (i : ℕ) → row_in there i ≡ is_some (slice_index_or cells i None)
