use Rattle.std.proofs.Common.{◌≡◌}
use Rattle.bw_mask.specs.Masks.{len}
use Rattle.test_layouts.proofs.vertical_ends.third_rows.Given as goal

abbrev pub invariant-loop-row : goal.invariant-loop-row
invariant-loop-row g l = len l.mask ≡ l.rows
