use Rattle.std.proofs.Common.{None, get_or, if◌then◌else◌, length, ℕ, ◌+◌, ◌<◌, ◌≡◌, ◌≤◌}
use Rattle.bw_mask.specs.Masks.{row_at}
use Rattle.bw_engine.proofs.live_ends.blank_dead.Given as goal

-- the cells so far are blanked, and the others are as they were
abbrev pub invariant-loop-i : goal.invariant-loop-i
invariant-loop-i l = record {
  len : length l.out ≡ length l.fn.out;
  done : (j : ℕ) → j < l.i → get_or l.out j None ≡ (if row_at l.live (l.at + j) then get_or l.fn.out j None else None);
  left : (j : ℕ) → l.i ≤ j → get_or l.out j None ≡ get_or l.fn.out j None;
}
