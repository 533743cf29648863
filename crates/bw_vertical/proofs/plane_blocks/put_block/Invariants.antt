use Rattle.std.proofs.Common.{[], get_or, ℕ, ◌*◌, ◌+◌, ◌-◌, ◌<◌, ◌≡◌}
use Rattle.bw_vertical.specs.Storage.{KeepsSizes, lists, word_of}
use Rattle.bw_vertical.proofs.plane_blocks.put_block.Given as goal

-- the segments so far, and those before them as they were
abbrev pub invariant-segments : goal.invariant-segments
invariant-segments l = record {
  sizes : KeepsSizes l.groups.items l.fn.groups.items;
  put : (i w : ℕ) → i < l.k → w < 4 * l.s → word_of l.k (lists l.groups.items) i (4 * l.q + w) ≡ get_or (get_or l.block (l.k - 1 - i) []) w 0;
  other : (i v : ℕ) → i < l.k → v < 4 * l.q → word_of l.k (lists l.groups.items) i v ≡ word_of l.k (lists l.fn.groups.items) i v;
}
