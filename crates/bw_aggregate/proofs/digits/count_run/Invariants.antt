use Rattle.std.proofs.Common.{Bool, List, drop, get_or, length, take, ℕ, ◌+◌, ◌<◌, ◌≡◌, ◌≤◌}
use Rattle.bw_aggregate.specs.Digits.{front_count}
use Rattle.bw_aggregate.specs.Runs.{IsRun}
use Rattle.bw_aggregate.proofs.digits.count_run.Given as goal

abbrev pub invariant-codes : goal.invariant-codes
invariant-codes l = record {
  small : (k : ℕ) → get_or l.counts k 0 ≤ l.before + l.i;
  counted : (need : List Bool) (all : List ℕ) (at d : ℕ) → length need ≡ length all → l.codes ≡ take (length l.codes) (drop at all) → IsRun need at (length l.codes) l.rows → d < l.digits.many
      → get_or l.counts d 0 + front_count need all at l.digits.below (l.digits.first + d) ≡ get_or l.fn.counts d 0 + front_count need all (at + l.i) l.digits.below (l.digits.first + d);
}
