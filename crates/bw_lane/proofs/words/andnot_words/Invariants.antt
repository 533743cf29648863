use Rattle.std.proofs.Common.{bit_and, length, slice_index, ℕ, ◌-◌, ◌^◌, ◌<◌, ◌≡◌, ◌≤◌}
use Rattle.bw_lane.proofs.words.andnot_words.Given as goal

-- the words before i are combined, and those from i on are as before
abbrev pub invariant-fours : goal.invariant-fours
invariant-fours l = record {
  inside : l.i ≤ length l.a;
  before : (k : ℕ) → k < l.i → slice_index l.a k ≡ bit_and (slice_index l.fn.a k) (2 ^ 64 - 1 - slice_index l.b k);
  rest : (k : ℕ) → l.i ≤ k → slice_index l.a k ≡ slice_index l.fn.a k;
}

abbrev pub decreases-fours : goal.decreases-fours
decreases-fours l = length l.a - l.i

abbrev pub invariant-rest : goal.invariant-rest
invariant-rest l = record {
  inside : l.i ≤ length l.a;
  before : (k : ℕ) → k < l.i → slice_index l.a k ≡ bit_and (slice_index l.fn.a k) (2 ^ 64 - 1 - slice_index l.b k);
  rest : (k : ℕ) → l.i ≤ k → slice_index l.a k ≡ slice_index l.fn.a k;
}

abbrev pub decreases-rest : goal.decreases-rest
decreases-rest l = length l.a - l.i
