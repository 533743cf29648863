use Rattle.std.proofs.Common.{length, take, ◌≡◌}
use Rattle.bw_groups.specs.Folding.{AreFolds}
use Rattle.bw_groups.specs.Runs.{values_in}
use Rattle.bw_groups.proofs.fold.fold_each.Given as goal

-- what was told of the rows in the runs before run q
abbrev pub invariant-runs : goal.invariant-runs
invariant-runs g l = record {
  count : length l.folds.items ≡ length l.groups.values;
  at : l.at ≡ length (values_in (take l.q (g.C.ValueRuns.runs l.column)));
  tells : AreFolds g.F.Fold.tells (take l.at l.ranks) (values_in (take l.q (g.C.ValueRuns.runs l.column))) l.folds.items;
}
