use Rattle.std.proofs.Common.{take, ◌≡◌}
use Rattle.bw_groups.specs.Runs.{values_in}
use Rattle.bw_groups.proofs.column_values.ColumnValues.of.Given as goal

-- the values in the runs before run q
abbrev pub invariant-runs : goal.invariant-runs
invariant-runs g l = l.all ≡ values_in (take l.q (g.C.ValueRuns.runs l.column))
