use Rattle.std.proofs.Common.{map, take, ◌≡◌}
use Rattle.bw_groups.specs.Runs.{values_in}
use Rattle.bw_groups.specs.Scales.{number_on}
use Rattle.bw_groups.proofs.scale.Scale.numbers.Given as goal

abbrev pub invariant-runs : goal.invariant-runs
invariant-runs g l = l.numbers.items ≡ map (number_on l.self.ends.least l.self.null) (values_in (take l.q (g.C.ValueRuns.runs l.column)))
