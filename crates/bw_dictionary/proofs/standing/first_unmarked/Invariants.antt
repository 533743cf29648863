use Rattle.std.proofs.Common.{length, ℕ, ◌-◌, ◌<◌, ◌≤◌}
use Rattle.bw_dictionary.specs.Merging.{StandsAt}
use Rattle.bw_dictionary.proofs.standing.first_unmarked.Given as goal

-- all entries before are marked
abbrev pub invariant-marked : goal.invariant-marked
invariant-marked l = record {
  inside : l.first ≤ length l.stands;
  marked : (m : ℕ) → m < l.first → StandsAt l.stands m;
}

abbrev pub decreases-marked : goal.decreases-marked
decreases-marked l = length l.stands - l.first
