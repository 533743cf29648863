use Rattle.std.proofs.Common.{false, get_or, length, true, ℕ, ◌<◌, ◌≡◌, ◌≤◌}
use Rattle.bw_column.proofs.slice_ends.has_at_least.Given as goal

abbrev pub invariant-loop-i : goal.invariant-loop-i
invariant-loop-i l = record {
  none : l.any ≡ false → (j : ℕ) → j < l.i → get_or l.bytes j 0 < l.byte;
  some : l.any ≡ true → (j : ℕ) × (j < length l.bytes) × (l.byte ≤ get_or l.bytes j 0);
}
