use Rattle.std.proofs.Common.{[], get_or, ℕ, ◌*◌, ◌+◌, ◌-◌, ◌/◌, ◌<◌, ◌≡◌}
use mathlib.Core.Logic.{◌≢◌}
use Rattle.bw_vertical.specs.Storage.{KeepsSizes, lists, word_of}
use Rattle.bw_vertical.proofs.plane_blocks.put_segment.Given as goal

-- the planes of the groups so far, and the other segments as they were
abbrev pub invariant-whole : goal.invariant-whole
invariant-whole l = record {
  sizes : KeepsSizes l.groups.items l.fn.groups.items;
  put : (i w : ℕ) → i < 4 * l.g → i < l.k → w < 4 → word_of l.k (lists l.groups.items) i (4 * l.q + w) ≡ get_or (get_or l.block (l.k - 1 - i) []) (4 * l.s + w) 0;
  other : (i v : ℕ) → i < l.k → v / 4 ≢ l.q → word_of l.k (lists l.groups.items) i v ≡ word_of l.k (lists l.fn.groups.items) i v;
}

abbrev pub invariant-last : goal.invariant-last
invariant-last l = record {
  sizes : KeepsSizes l.groups.items l.fn.groups.items;
  put : (i w : ℕ) → i < 4 * l.g → i < l.k → w < 4 → word_of l.k (lists l.groups.items) i (4 * l.q + w) ≡ get_or (get_or l.block (l.k - 1 - i) []) (4 * l.s + w) 0;
  other : (i v : ℕ) → i < l.k → v / 4 ≢ l.q → word_of l.k (lists l.groups.items) i v ≡ word_of l.k (lists l.fn.groups.items) i v;
}
