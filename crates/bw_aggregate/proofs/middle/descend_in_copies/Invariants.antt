use Rattle.std.proofs.Common.{List, length, ℕ, ◌≡◌, ◌≤◌}
use Rattle.bw_mask.specs.Masks.{len}
use Rattle.bw_column.specs.Codes.{codes_for}
use Rattle.bw_aggregate.specs.Descending.{IsDescent}
use Rattle.bw_aggregate.proofs.middle.descend_in_copies.Given as goal

abbrev pub invariant-planes : goal.invariant-planes
invariant-planes l = record {
  planes : l.i ≤ l.bits;
  copy : len l.copy ≡ length l.column.values;
  leads : (held : List ℕ) (n : ℕ) → IsDescent (codes_for l.column.encoding l.column.values) held n l.bits l.fn.descent → IsDescent (codes_for l.column.encoding l.column.values) held n l.i l.descent;
}
