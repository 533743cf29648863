use Rattle.std.proofs.Common.{drop, take}
use Rattle.bw_groups.specs.Runs.{AreFilled}
use Rattle.bw_groups.proofs.column_values.ColumnValuesValueRuns.measure_run.Given as goal

-- the values so far
abbrev pub invariant-run : goal.invariant-run
invariant-run l = AreFilled l.base (take l.k (drop l.start l.self)) l.k l.out l.there
