use Rattle.std.proofs.Common.{◌≡◌, ◌≤◌}
use Rattle.bw_mask.specs.Masks.{row_at}
use Rattle.bw_code.specs.Units.{count_below}
use Rattle.test_codes.proofs.units.fetch_units.Given as goal

abbrev pub invariant-loop-row : goal.invariant-loop-row
invariant-loop-row l = record {
  count : l.count ≡ count_below l.row (row_at l.need);
  few : l.count ≤ l.row;
}
