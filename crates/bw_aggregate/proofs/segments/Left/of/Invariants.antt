use Rattle.std.proofs.Common.{Bool, List, get_or, false, length, take, ℕ, ◌&&◌, ◌*◌, ◌≡◌, ◌≤◌}
use Rattle.std.specs.Prelude.{sum_by}
use Rattle.bw_aggregate.specs.Left.{segment_count}
use Rattle.bw_aggregate.specs.Marks.{marked}
use Rattle.bw_aggregate.proofs.segments.Left.of.Given as goal

abbrev pub invariant-segments : goal.invariant-segments
invariant-segments l = record {
  kept : l.kept ≤ l.number;
  len : length l.segments.items ≡ l.count;
  counts : (codes : List ℕ) (p : ℕ → Bool) → length codes ≡ length l.rows.rows → sum_by (segment_count codes p) (take l.kept l.segments.items)
      ≡ marked (256 * l.number) (λ r. get_or l.rows.rows r false && p (get_or codes r 0));
}
