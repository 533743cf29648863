use Rattle.std.proofs.Common.{ℕ, ◌-◌, ◌<◌, ◌≡◌}
use mathlib.Core.Logic.{◌≢◌}
use Rattle.bw_mask.specs.Masks.{bit_of}
use Rattle.bw_vertical.specs.Storage.{KeepsSizes, is_set, lists}
use Rattle.bw_vertical.proofs.codes.put_code.Given as goal

-- the planes so far
abbrev pub invariant-loop-i : goal.invariant-loop-i
invariant-loop-i l = record {
  sizes : KeepsSizes l.groups.items l.fn.groups.items;
  same : (p : ℕ) → p < l.i → is_set l.k (lists l.groups.items) p l.j ≡ bit_of l.code (l.k - 1 - p);
  other : (p r : ℕ) → p < l.k → r ≢ l.j → is_set l.k (lists l.groups.items) p r ≡ is_set l.k (lists l.fn.groups.items) p r;
}
