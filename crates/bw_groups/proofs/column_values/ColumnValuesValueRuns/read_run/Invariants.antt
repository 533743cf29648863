use Rattle.std.proofs.Common.{drop, take, ◌≡◌}
use Rattle.bw_groups.proofs.column_values.ColumnValuesValueRuns.read_run.Given as goal

abbrev pub invariant-run : goal.invariant-run
invariant-run l = l.run.items ≡ take l.k (drop l.start l.self)
