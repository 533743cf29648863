use Rattle.std.proofs.Common.{length, map, pos, take, vec_capacity, ◌+ℤ◌, ◌≡◌, ◌≤◌}
use Rattle.bw_dictionary.proofs.ranked_cells.values_at.Given as goal

abbrev pub invariant-distances : goal.invariant-distances
invariant-distances l = record {
  room : length l.distances ≤ vec_capacity l.values;
  values : l.values.items ≡ map (λ n. l.ends.least +ℤ pos n) (take l.i l.distances);
}
