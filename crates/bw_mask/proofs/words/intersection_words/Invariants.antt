use Rattle.std.proofs.Common.{bit_and, slice_index, ℕ, ◌<◌, ◌≡◌, ◌≤◌}
use Rattle.bw_mask.proofs.words.intersection_words.Given as goal

abbrev pub invariant-loop-k : goal.invariant-loop-k
invariant-loop-k l = ((j : ℕ) → j < l.k → slice_index l.out j ≡ bit_and (slice_index l.a j) (slice_index l.b j)) × ((j : ℕ) → l.k ≤ j → slice_index l.out j ≡ slice_index l.fn.out j)
