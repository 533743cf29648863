use Rattle.std.proofs.Common.{ℕ, ◌&&◌, ◌*◌, ◌<◌, ◌≡◌}
use Rattle.bw_mask.specs.Masks.{SameShape, row_at}
use Rattle.bw_column.specs.Comparisons.{compare_so}
use Rattle.bw_column.specs.Values.{value_at}
use Rattle.bw_column.proofs.column.Column.compare_rows.Given as goal

abbrev pub invariant-loop-q : goal.invariant-loop-q
invariant-loop-q l = record {
  shape : SameShape l.out l.fn.out;
  rows : (i : ℕ) → i < 64 * l.q → row_at l.out i ≡ (row_at l.need i && compare_so l.op (value_at l.self.values i) (value_at l.other.values i));
}
