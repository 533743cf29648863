use Rattle.std.proofs.Common.{Option, get_or, ℕ, ℤ, ◌<◌}
use Rattle.bw_column.specs.Values.{IsNullOrHeld}
use Rattle.test_columns.proofs.columns.check_values.Given as goal

abbrev pub invariant-loop-value : goal.invariant-loop-value
invariant-loop-value g l = (k : ℕ) (d : Option ℤ) → k < l.value-index → IsNullOrHeld l.layout (get_or l.values k d)
