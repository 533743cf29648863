use Rattle.std.proofs.Common.{get_or, length, ℕ, ◌*◌, ◌<◌, ◌≡◌}
use Rattle.bw_table.specs.Changes.{places_below}
use Rattle.bw_table.proofs.chosen_cells.counts_before.Given as goal

-- the rows before each word so far, and before this one
abbrev pub invariant-loop-w : goal.invariant-loop-w
invariant-loop-w l = record {
  long : length l.counts.items ≡ l.w;
  each : (j : ℕ) → j < l.w → get_or l.counts.items j 0 ≡ length (places_below l.mask (64 * j));
  now : l.count ≡ length (places_below l.mask (64 * l.w));
}
