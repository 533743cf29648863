use Rattle.std.proofs.Common.{get_or, ℕ, ◌*◌, ◌<◌, ◌≡◌}
use Rattle.bw_mask.specs.Masks.{bit_of, row_at, SameShape}
use Rattle.bw_byteslice.proofs.plane.put_rows.Given as goal

abbrev pub invariant-loop-w : goal.invariant-loop-w
invariant-loop-w l = record {
  shape : SameShape l.out l.fn.out;
  rows : (r : ℕ) → r < 64 * l.w → row_at l.out r ≡ bit_of (get_or l.slice r 0) l.i;
}
