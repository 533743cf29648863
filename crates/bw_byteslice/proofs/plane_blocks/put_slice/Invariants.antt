use Rattle.std.proofs.Common.{get_or, length, ℕ, ◌*◌, ◌+◌, ◌<◌, ◌≡◌, ◌≤◌}
use Rattle.std.specs.Prelude.{vec_capacity}
use Rattle.bw_byteslice.proofs.PlaneBytes.{IsOfPlanes}
use Rattle.bw_byteslice.proofs.plane_blocks.put_slice.Given as goal

-- the rows of the words so far
abbrev pub invariant-words : goal.invariant-words
invariant-words l = record {
  len : length l.slice.items ≡ length l.fn.slice.items;
  capacity : vec_capacity l.slice ≡ vec_capacity l.fn.slice;
  put : (r : ℕ) → r < 64 * l.j → r < l.rows → IsOfPlanes l.block l.low l.spare r (get_or l.slice.items (l.at + r) 0);
  outside : (q : ℕ) → (l.at ≤ q → l.at + l.rows ≤ q) → get_or l.slice.items q 0 ≡ get_or l.fn.slice.items q 0;
}
