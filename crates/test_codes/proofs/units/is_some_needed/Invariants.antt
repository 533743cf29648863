use Rattle.std.proofs.Common.{◌≡◌}
use Rattle.bw_mask.specs.Masks.{row_at}
use Rattle.bw_code.specs.Units.{some_below}
use Rattle.test_codes.proofs.units.is_some_needed.Given as goal

abbrev pub invariant-loop-row : goal.invariant-loop-row
invariant-loop-row l = l.is_some ≡ some_below l.row (row_at l.need)
