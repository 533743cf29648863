use Rattle.std.proofs.Common.{length, ◌≡◌, ◌≤◌}
use Rattle.bw_mask.specs.Masks.{len}
use Rattle.test_tables.proofs.harness.picked.Given as goal

abbrev pub invariant-loop-i : goal.invariant-loop-i
invariant-loop-i g l = record {
  shape : len l.found ≡ length l.table.slots;
  rows : l.row ≤ l.i;
}
