use Rattle.std.proofs.Common.{get_or, ℕ, ◌-ℤ◌, ◌<◌, ◌^◌}
use Rattle.bw_mask.specs.Masks.{row_at}
use Rattle.bw_code.specs.Shifts.{StaysBelow, shifted}
use Rattle.test_layouts.proofs.shifts.check_fit.Given as goal

abbrev pub invariant-loop-i : goal.invariant-loop-i
invariant-loop-i g l = (i : ℕ) → i < l.i → StaysBelow (2 ^ l.width) (shifted (l.from -ℤ l.to) (row_at l.rows i) (get_or l.codes i 0))
