use Rattle.std.proofs.Common.{get_or, ℕ, ◌*◌, ◌<◌, ◌≡◌}
use Rattle.bw_mask.specs.Masks.{bit_of, row_at, SameShape}
use Rattle.bw_code.proofs.wide_codes.rows_with_bit.Given as goal

abbrev pub invariant-loop-q : goal.invariant-loop-q
invariant-loop-q l = record {
  shape : SameShape l.out l.fn.out;
  rows : (r : ℕ) → r < 64 * l.q → row_at l.out r ≡ bit_of (get_or l.codes r 0) l.i;
}
