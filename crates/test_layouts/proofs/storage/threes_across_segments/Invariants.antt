use Rattle.std.proofs.Common.{length, ◌≡◌, ◌≤◌}
use Rattle.test_layouts.proofs.storage.threes_across_segments.Given as goal

abbrev pub invariant-loop-row : goal.invariant-loop-row
invariant-loop-row g l = record { width : l.column.width ≡ 2; count : length l.column.codes ≡ l.row; room : 64 ≤ l.column.room }
