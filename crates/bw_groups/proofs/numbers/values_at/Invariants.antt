use Rattle.std.proofs.Common.{Some, map, pos, take, ◌+ℤ◌, ◌≡◌}
use Rattle.bw_groups.proofs.numbers.values_at.Given as goal

abbrev pub invariant-distances : goal.invariant-distances
invariant-distances l = l.values.items ≡ map (λ n. Some (l.ends.least +ℤ pos n)) (take l.i l.distances)
