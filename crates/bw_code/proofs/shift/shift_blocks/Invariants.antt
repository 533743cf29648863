use Rattle.std.proofs.Common.{get_or, length, ℕ, ◌*◌, ◌<◌, ◌≡◌, ◌≤◌}
use Rattle.bw_mask.specs.Masks.{row_at}
use Rattle.bw_code.specs.Shifts.{moved}
use Rattle.bw_code.proofs.shift.shift_blocks.Given as goal

-- the codes of the blocks before this one are moved, and the others are as they were
abbrev pub invariant-loop-q : goal.invariant-loop-q
invariant-loop-q l = record {
  done : (k : ℕ) → k < 64 * l.q → k < length l.codes → get_or l.codes k 0 ≡ moved l.by (row_at l.rows k) (get_or l.fn.codes k 0);
  left : (k : ℕ) → 64 * l.q ≤ k → get_or l.codes k 0 ≡ get_or l.fn.codes k 0;
  long : length l.codes ≡ length l.fn.codes;
}
