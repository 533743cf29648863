use Rattle.std.proofs.Common.{get_or, ℕ, ◌&&◌, ◌*◌, ◌<◌, ◌≡◌}
use Rattle.bw_mask.specs.Masks.{row_at, SameShape}
use Rattle.bw_code.specs.Intervals.{is_in}
use Rattle.bw_code.proofs.narrow_codes.rows_in.Given as goal

abbrev pub invariant-loop-q : goal.invariant-loop-q
invariant-loop-q l = record {
  shape : SameShape l.out l.fn.out;
  rows : (r : ℕ) → r < 64 * l.q → row_at l.out r ≡ (row_at l.need r && is_in l.interval (get_or l.codes r 0));
}
