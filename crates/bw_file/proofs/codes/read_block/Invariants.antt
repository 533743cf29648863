use Rattle.std.proofs.Common.{[], get_or, length, nat_lt, ℕ, ◌&&◌, ◌+◌, ◌-◌, ◌<◌, ◌==◌, ◌≡◌}
use Rattle.bw_mask.specs.Masks.{row_in}
use Rattle.bw_file.specs.Planes.{plane_bit}
use Rattle.bw_file.proofs.codes.read_block.Given as goal

-- the planes so far
abbrev pub invariant-loop-i : goal.invariant-loop-i
invariant-loop-i l = record {
  long : length l.block ≡ 64;
  rows : (p r : ℕ) → p < l.i → row_in (get_or l.block (l.k - 1 - p) []) r ≡ ((plane_bit l.size l.planes p (l.at + r) == 1) && nat_lt r l.count);
}
