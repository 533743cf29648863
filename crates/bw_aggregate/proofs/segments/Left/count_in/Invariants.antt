use Rattle.std.proofs.Common.{List, take, ℕ, ◌*◌, ◌≡◌, ◌≤◌}
use Rattle.std.specs.Prelude.{sum_by}
use Rattle.bw_mask.specs.Masks.{bit_of}
use Rattle.bw_aggregate.specs.Left.{segment_count}
use Rattle.bw_aggregate.specs.Planes.{IsPlane}
use Rattle.bw_aggregate.proofs.segments.Left.count_in.Given as goal

abbrev pub invariant-segments : goal.invariant-segments
invariant-segments l = record {
  count : (codes : List ℕ) (i : ℕ) → IsPlane codes i l.plane → l.count ≡ sum_by (segment_count codes (λ code. bit_of code i)) (take l.k l.self.segments.items);
  few : l.count ≤ 256 * l.k;
}
