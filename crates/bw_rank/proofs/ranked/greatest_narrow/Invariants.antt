use Rattle.std.proofs.Common.{slice_index, ℕ, ◌<◌, ◌≤◌}
use Rattle.bw_rank.proofs.ranked.greatest_narrow.Given as goal

abbrev pub invariant-loop-number : goal.invariant-loop-number
invariant-loop-number l = (k : ℕ) → k < l.number-index → slice_index l.numbers k ≤ l.greatest
