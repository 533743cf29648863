use Rattle.std.proofs.Common.{Some, [], get_or, length, pos, ℕ, ◌+◌, ◌<◌, ◌≡◌, ◌≤◌}
use Rattle.bw_cells.specs.SetFunctions.{median}
use Rattle.bw_groups.proofs.median.put_medians.Given as goal

-- the lists from list k on are as they were
abbrev pub invariant-lists : goal.invariant-lists
invariant-lists l = record {
  count : length l.medians.items ≡ length l.fn.medians.items + l.k;
  as_many : length l.lists.lists ≡ length l.fn.lists.lists;
  rest : (h : ℕ) → l.k ≤ h → get_or l.lists.lists h [] ≡ get_or l.fn.lists.lists h [];
  keeps : (g : ℕ) → g < length l.fn.medians.items → get_or l.medians.items g (pos 0) ≡ get_or l.fn.medians.items g (pos 0);
  each : (k : ℕ) → k < l.k → 0 < length (get_or l.fn.lists.lists k []) → median (get_or l.fn.lists.lists k []) ≡ Some (get_or l.medians.items (length l.fn.medians.items + k) (pos 0));
}
