use Rattle.std.proofs.Common.{length, ◌≡◌, ◌≤◌}
use Rattle.test_layouts.proofs.units.two_segments.Given as goal

abbrev pub invariant-loop-row : goal.invariant-loop-row
invariant-loop-row g l = record { width : l.column.width ≡ 16; count : length l.column.codes ≡ l.row; room : 33 ≤ l.column.room }
