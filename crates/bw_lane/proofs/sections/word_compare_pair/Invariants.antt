use Rattle.std.proofs.Common.{ℕ, ◌<◌, ◌≤◌, ◌-◌, length, slice_index}
use Rattle.bw_lane.specs.Sections.{IsCompared}
use Rattle.bw_lane.proofs.sections.word_compare_pair.Given as goal

abbrev pub invariant-fours : goal.invariant-fours
invariant-fours l = (l.i ≤ length l.x) × ((j : ℕ) → j < l.i → IsCompared l.op l.k (slice_index l.x j) (slice_index l.y j) (slice_index l.out j))

abbrev pub decreases-fours : goal.decreases-fours
decreases-fours l = length l.x - l.i

abbrev pub invariant-rest : goal.invariant-rest
invariant-rest l = (l.i ≤ length l.x) × ((j : ℕ) → j < l.i → IsCompared l.op l.k (slice_index l.x j) (slice_index l.y j) (slice_index l.out j))

abbrev pub decreases-rest : goal.decreases-rest
decreases-rest l = length l.x - l.i
