use Rattle.std.proofs.Common.{vec_len, ◌≡◌}
use Rattle.test_columns.proofs.changes.values_of.Given as goal

abbrev pub invariant-loop-row : goal.invariant-loop-row
invariant-loop-row g l = vec_len l.values ≡ l.row
