use Rattle.std.proofs.Common.{map, take, ◌≡◌}
use Rattle.bw_groups.specs.Scales.{value_on}
use Rattle.bw_groups.proofs.scale.Scale.values.Given as goal

abbrev pub invariant-numbers : goal.invariant-numbers
invariant-numbers l = l.values.items ≡ map (value_on l.self.ends.least l.self.null) (take l.i l.numbers)
