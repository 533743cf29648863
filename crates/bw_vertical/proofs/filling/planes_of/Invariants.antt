use Rattle.std.proofs.Common.{[], get_or, length, ℕ, ◌-◌, ◌<◌, ◌≡◌}
use Rattle.bw_mask.specs.Masks.{bit_of, row_in}
use Rattle.bw_vertical.proofs.filling.planes_of.Given as goal

-- the planes so far
abbrev pub invariant-loop-i : goal.invariant-loop-i
invariant-loop-i l = record {
  long : length l.planes ≡ 4;
  done : (p j : ℕ) → p < l.i → j < 256 → row_in (get_or l.planes p []) j ≡ bit_of l.code (l.top - p);
}
