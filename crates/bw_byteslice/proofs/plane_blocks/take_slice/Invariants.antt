use Rattle.std.proofs.Common.{[], get_or, ℕ, ◌*◌, ◌+◌, ◌-◌, ◌<◌, ◌≡◌, ◌≤◌}
use Rattle.bw_mask.specs.Masks.{bit_of, row_in}
use Rattle.bw_byteslice.proofs.plane_blocks.take_slice.Given as goal

-- the words so far
abbrev pub invariant-loop-j : goal.invariant-loop-j
invariant-loop-j l = record {
  taken : (t r : ℕ) → t < 8 → l.spare ≤ l.low + t → r < 64 * l.j → row_in (get_or l.block (l.low + t - l.spare) []) r ≡ bit_of (get_or l.slice (64 * l.w + r) 0) t;
  away : (b m : ℕ) → (l.low ≤ b + l.spare → l.low + 8 ≤ b + l.spare) → get_or (get_or l.block b []) m 0 ≡ get_or (get_or l.fn.block b []) m 0;
}
