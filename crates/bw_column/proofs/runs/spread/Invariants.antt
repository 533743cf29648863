use Rattle.std.proofs.Common.{get_or, if◌then◌else◌, length, ℕ, ◌+◌, ◌<◌, ◌≡◌, ◌≤◌}
use Rattle.bw_mask.specs.Masks.{row_at}
use Rattle.bw_column.specs.Places.{rank}
use Rattle.bw_column.proofs.runs.spread.Given as goal

-- the places so far
abbrev pub invariant-loop-i : goal.invariant-loop-i
invariant-loop-i g l = record {
  long : length l.out ≡ length l.fn.out;
  next : l.next ≡ rank l.places (l.at + l.i);
  small : l.next ≤ l.at + l.i;
  each : (k : ℕ) → k < l.i → get_or l.out k l.none ≡ (if row_at l.places (l.at + k) then get_or l.list (rank l.places (l.at + k)) l.none else l.none);
}
