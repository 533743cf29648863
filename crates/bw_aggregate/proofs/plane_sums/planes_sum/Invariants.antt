use Rattle.std.proofs.Common.{All, Bool, List, length, ℕ, ◌*◌, ◌-◌, ◌<◌, ◌^◌, ◌≡◌, ◌≤◌}
use Rattle.bw_aggregate.specs.PlaneSums.{AreMadeOf, AreRows, IsSumTo}
use Rattle.bw_aggregate.proofs.plane_sums.planes_sum.Given as goal

abbrev pub invariant-groups : goal.invariant-groups
invariant-groups l = record {
  from : l.group ≤ l.g;
  upto : 4 * l.g ≤ l.end;
  sum : (need : List Bool) (numbers : List ℕ) → length need ≡ length numbers → All (λ n. n < 2 ^ (l.end - 4 * l.group)) numbers
      → AreMadeOf l.codes.codes (l.codes.width - l.end) (l.end - 4 * l.group) numbers → AreRows need l.q l.rows → IsSumTo need numbers l.q (l.end - 4 * l.g) l.sum;
}

abbrev pub invariant-rest : goal.invariant-rest
invariant-rest l = record {
  from : 4 * l.group ≤ l.i;
  sum : (need : List Bool) (numbers : List ℕ) → length need ≡ length numbers → All (λ n. n < 2 ^ (l.end - 4 * l.group)) numbers
      → AreMadeOf l.codes.codes (l.codes.width - l.end) (l.end - 4 * l.group) numbers → AreRows need l.q l.rows → IsSumTo need numbers l.q (l.end - l.i) l.sum;
}
