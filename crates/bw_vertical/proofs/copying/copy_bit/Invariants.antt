use Rattle.std.proofs.Common.{[], get_or, length, ℕ, ◌*◌, ◌+◌, ◌-◌, ◌/◌, ◌<◌, ◌≡◌, ◌≤◌, ◌⊎◌}
use mathlib.Core.Logic.{◌≢◌}
use Rattle.std.specs.Prelude.{if◌then◌else◌}
use Rattle.bw_mask.specs.Masks.{bit_of, row_in}
use Rattle.bw_vertical.specs.Carries.{IsCarry}
use Rattle.bw_vertical.specs.Storage.{KeepsSizes, code_of, is_set, lists, word_of}
use Rattle.bw_vertical.proofs.copying.copy_bit.Given as goal

-- the plane of the segments so far is copied, and that of the others is as it was
abbrev pub invariant-loop-s : goal.invariant-loop-s
invariant-loop-s l = record {
  sizes : KeepsSizes l.groups.items l.fn.groups.items;
  long : length l.carries ≡ length l.fn.carries;
  done : (t j : ℕ) → t < l.s → j < 256 → IsCarry (get_or l.fn.carries t []) l.own (lists l.others) l.moved l.by (l.q + t) l.b j
      → is_set l.k (lists l.groups.items) (l.k - 1 - l.b) (256 * (l.q + t) + j)
      ≡ (if row_in l.rows (256 * (l.q + t) + j) then bit_of (code_of l.own (lists l.others) (256 * (l.q + t) + j) + (if row_in l.moved (256 * (l.q + t) + j) then l.by else 0)) l.b
      else is_set l.k (lists l.fn.groups.items) (l.k - 1 - l.b) (256 * (l.q + t) + j));
  carry : (t j : ℕ) → t < l.s → j < 256 → IsCarry (get_or l.fn.carries t []) l.own (lists l.others) l.moved l.by (l.q + t) l.b j
      → IsCarry (get_or l.carries t []) l.own (lists l.others) l.moved l.by (l.q + t) (l.b + 1) j;
  left : (v : ℕ) → l.q + l.s ≤ v / 4 → word_of l.k (lists l.groups.items) (l.k - 1 - l.b) v ≡ word_of l.k (lists l.fn.groups.items) (l.k - 1 - l.b) v;
  kept : (t : ℕ) → l.s ≤ t → get_or l.carries t [] ≡ get_or l.fn.carries t [];
  other : (p v : ℕ) → p < l.k → (p ≢ l.k - 1 - l.b) ⊎ ((v / 4 < l.q) ⊎ (l.q + l.n ≤ v / 4)) → word_of l.k (lists l.groups.items) p v ≡ word_of l.k (lists l.fn.groups.items) p v;
}
