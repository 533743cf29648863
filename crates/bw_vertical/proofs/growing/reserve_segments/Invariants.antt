use Rattle.std.proofs.Common.{[], length, slice_index, slice_index_or, vec_len, ℕ, ◌*◌, ◌+◌, ◌<◌, ◌≡◌, ◌≤◌}
use Rattle.bw_vertical.specs.Storage.{capacities, lists, planes_in}
use Rattle.bw_vertical.proofs.growing.reserve_segments.Given as goal

-- the groups so far have room
abbrev pub invariant-loop-g : goal.invariant-loop-g
invariant-loop-g l = record {
  count : vec_len l.groups ≡ vec_len l.fn.groups;
  same : lists l.groups.items ≡ lists l.fn.groups.items;
  more : (h : ℕ) → slice_index (capacities l.fn.groups.items) h ≤ slice_index (capacities l.groups.items) h;
  room : (h : ℕ) → h < l.g → 4 * h < l.k → length (slice_index_or (lists l.fn.groups.items) h []) + l.more * planes_in l.k h ≤ slice_index (capacities l.groups.items) h;
}
