use Rattle.std.proofs.Common.{filter_map, option_map, take, unsigned_abs, ◌≡◌}
use Rattle.std.specs.Prelude.{◌-ℤ◌}
use Rattle.bw_groups.proofs.numbers.distances_from.Given as goal

abbrev pub invariant-values : goal.invariant-values
invariant-values l = l.distances.items ≡ filter_map (λ value. option_map (λ x. unsigned_abs (x -ℤ l.base)) value) (take l.i l.values)
