use Rattle.std.proofs.Common.{[], length, slice_index, slice_index_or, vec_len, ℕ, ◌*◌, ◌+◌, ◌<◌, ◌≡◌, ◌≤◌}
use Rattle.bw_vertical.specs.Storage.{capacities, lists, planes_in, word_of}
use Rattle.bw_vertical.proofs.growing.push_segments.Given as goal

-- the groups so far have the segments
abbrev pub invariant-loop-g : goal.invariant-loop-g
invariant-loop-g l = record {
  count : vec_len l.groups ≡ vec_len l.fn.groups;
  grown : (h : ℕ) → h < l.g → 4 * h < l.k → length (slice_index_or (lists l.groups.items) h []) ≡ length (slice_index_or (lists l.fn.groups.items) h []) + l.more * planes_in l.k h;
  rest : (h : ℕ) → l.g ≤ h → slice_index_or (lists l.groups.items) h [] ≡ slice_index_or (lists l.fn.groups.items) h [];
  more : (h : ℕ) → slice_index (capacities l.fn.groups.items) h ≤ slice_index (capacities l.groups.items) h;
  words : (i w : ℕ) → word_of l.k (lists l.groups.items) i w ≡ word_of l.k (lists l.fn.groups.items) i w;
}
