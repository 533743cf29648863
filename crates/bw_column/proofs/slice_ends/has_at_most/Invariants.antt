use Rattle.std.proofs.Common.{false, get_or, length, true, ℕ, ◌<◌, ◌≡◌, ◌≤◌}
use Rattle.bw_column.proofs.slice_ends.has_at_most.Given as goal

abbrev pub invariant-loop-i : goal.invariant-loop-i
invariant-loop-i l = record {
  none : l.any ≡ false → (j : ℕ) → j < l.i → l.byte < get_or l.bytes j 0;
  some : l.any ≡ true → (j : ℕ) × (j < length l.bytes) × (get_or l.bytes j 0 ≤ l.byte);
}
