use Rattle.std.proofs.Common.{get_or, ℕ, ◌&&◌, ◌*◌, ◌<◌, ◌≡◌}
use Rattle.bw_mask.specs.Masks.{row_at, SameShape}
use Rattle.bw_code.specs.Tests.{code_compares}
use Rattle.bw_code.proofs.wide_pair.compare_rows.Given as goal

abbrev pub invariant-loop-q : goal.invariant-loop-q
invariant-loop-q l = record {
  shape : SameShape l.out l.fn.out;
  rows : (r : ℕ) → r < 64 * l.q → row_at l.out r ≡ (row_at l.need r && code_compares l.op (get_or l.codes r 0) (get_or l.others r 0));
}
