use Rattle.std.proofs.Common.{Bool, List, get_or, length, take, ℕ, ◌&&◌, ◌≡◌, ◌≤◌}
use Rattle.std.specs.Prelude.{sum_by}
use Rattle.bw_aggregate.specs.Left.{segment_count}
use Rattle.bw_aggregate.specs.Planes.{IsPlane, has_bit}
use Rattle.bw_aggregate.specs.declared.segments.Segment.{Segment}
use Rattle.bw_aggregate.proofs.segments.Left.keep.Given as goal

abbrev pub invariant-segments : goal.invariant-segments
invariant-segments l = record {
  kept : l.kept ≤ l.k;
  len : length l.self.segments.items ≡ length l.fn.self.segments.items;
  rest : (m : ℕ) (d : Segment) → l.k ≤ m → get_or l.self.segments.items m d ≡ get_or l.fn.self.segments.items m d;
  counts : (codes : List ℕ) (i : ℕ) → IsPlane codes i l.plane → (p : ℕ → Bool) → sum_by (segment_count codes p) (take l.kept l.self.segments.items)
      ≡ sum_by (segment_count codes (λ code. has_bit i l.bit code && p code)) (take l.k l.fn.self.segments.items);
}
