use Rattle.std.proofs.Common.{[], get_or, ℕ, ◌*◌, ◌+◌, ◌-◌, ◌<◌, ◌≡◌}
use Rattle.bw_vertical.specs.Storage.{lists, word_of}
use Rattle.bw_vertical.proofs.plane_blocks.take_block.Given as goal

-- the segments so far
abbrev pub invariant-segments : goal.invariant-segments
invariant-segments l = (i w : ℕ) → i < l.k → w < 4 * l.s → get_or (get_or l.block (l.k - 1 - i) []) w 0 ≡ word_of l.k (lists l.groups) i (4 * l.q + w)
