use Rattle.std.proofs.Common.{[], get_or, ℕ, ◌-◌, ◌/◌, ◌<◌, ◌≡◌, ◌≤◌}
use Rattle.std.specs.Prelude.{if◌then◌else◌}
use Rattle.bw_mask.specs.Masks.{bit_of, row_at}
use Rattle.bw_vertical.specs.Storage.{KeepsSizes, is_set, lists}
use Rattle.bw_vertical.proofs.filling.fill_codes.Given as goal

-- the groups so far are filled, and the others are as they were
abbrev pub invariant-loop-g : goal.invariant-loop-g
invariant-loop-g l = record {
  sizes : KeepsSizes l.groups.items l.fn.groups.items;
  done : (i j : ℕ) → i < l.k → i / 4 < l.g → is_set l.k (lists l.groups.items) i j ≡ (if row_at l.rows j then bit_of l.code (l.k - 1 - i) else is_set l.k (lists l.fn.groups.items) i j);
  left : (h : ℕ) → l.g ≤ h → get_or (lists l.groups.items) h [] ≡ get_or (lists l.fn.groups.items) h [];
}
