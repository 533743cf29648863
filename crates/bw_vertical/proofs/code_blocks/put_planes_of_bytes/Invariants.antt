use Rattle.std.proofs.Common.{[], get_or, length, ℕ, ◌+◌, ◌-◌, ◌<◌, ◌≡◌, ◌≤◌}
use mathlib.Core.Logic.{◌≢◌}
use Rattle.bw_mask.specs.Masks.{bit_of}
use Rattle.bw_vertical.proofs.code_blocks.put_planes_of_bytes.Given as goal

-- the planes so far
abbrev pub invariant-loop-t : goal.invariant-loop-t
invariant-loop-t l = record {
  long : length l.block ≡ 64;
  put : (u r : ℕ) → u < l.t → l.spare ≤ l.low + u → r < 64 → bit_of (get_or (get_or l.block (l.low + u - l.spare) []) l.j 0) r ≡ bit_of (get_or l.bytes r 0) u;
  others : (b m : ℕ) → m ≢ l.j → get_or (get_or l.block b []) m 0 ≡ get_or (get_or l.fn.block b []) m 0;
  away : (b m : ℕ) → (l.low ≤ b + l.spare → l.low + 8 ≤ b + l.spare) → get_or (get_or l.block b []) m 0 ≡ get_or (get_or l.fn.block b []) m 0;
}
