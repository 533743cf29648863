-- The rows of a column that are left, counted by their codes.
use Rattle.std.specs.Prelude.{Bool, List, drop, slice_index, sum_by, take, ℕ, ◌&&◌, ◌*◌, ◌+◌, ◌-◌}
use Rattle.std.specs.List.{items_where_true}
use Rattle.bw_mask.specs.Masks.{row_in}
use Rattle.bw_aggregate.specs.Marks.{marked}
use Rattle.bw_aggregate.specs.declared.segments.Left.{Left}
use Rattle.bw_aggregate.specs.declared.segments.Segment.{Segment}

-- the number of rows of a segment that are left and have a code that passes a test
abbrev pub segment_count : List ℕ → (ℕ → Bool) → Segment → ℕ
segment_count codes p segment = marked 256 (λ j. row_in segment.rows j && p (slice_index codes (256 * segment.number + j)))

abbrev pub left_count : List ℕ → (ℕ → Bool) → Left → ℕ
left_count codes p left = sum_by (segment_count codes p) left.segments.items

-- the codes of the selected rows among `from` to `to - 1`
abbrev pub codes_between : List Bool → List ℕ → ℕ → ℕ → List ℕ
codes_between rows codes from to = items_where_true (take (to - from) (drop from rows)) (take (to - from) (drop from codes))
