use Rattle.std.proofs.Common.{[], get_or, ℕ, ◌*◌, ◌+◌, ◌-◌, ◌/◌, ◌<◌, ◌≡◌, ◌≤◌, ◌⊎◌}
use Rattle.std.specs.Prelude.{if◌then◌else◌}
use Rattle.bw_mask.specs.Masks.{bit_of, row_in}
use Rattle.bw_vertical.specs.Carries.{IsCarry}
use Rattle.bw_vertical.specs.Storage.{KeepsSizes, code_of, is_set, lists, word_of}
use Rattle.bw_vertical.proofs.copying.copy_block.Given as goal

-- the planes of the b lowest bits are copied, and the others are as they were
abbrev pub invariant-loop-b : goal.invariant-loop-b
invariant-loop-b l = record {
  sizes : KeepsSizes l.groups.items l.fn.groups.items;
  done : (i s j : ℕ) → l.k - l.b ≤ i → i < l.k → s < l.n → j < 256 → is_set l.k (lists l.groups.items) i (256 * (l.q + s) + j)
      ≡ (if row_in l.rows (256 * (l.q + s) + j) then bit_of (code_of l.own (lists l.others) (256 * (l.q + s) + j) + (if row_in l.moved (256 * (l.q + s) + j) then l.by else 0)) (l.k - 1 - i)
      else is_set l.k (lists l.fn.groups.items) i (256 * (l.q + s) + j));
  carry : (s j : ℕ) → s < l.n → j < 256 → IsCarry (get_or l.carries s []) l.own (lists l.others) l.moved l.by (l.q + s) l.b j;
  left : (i v : ℕ) → i < l.k - l.b → word_of l.k (lists l.groups.items) i v ≡ word_of l.k (lists l.fn.groups.items) i v;
  other : (i v : ℕ) → i < l.k → (v / 4 < l.q) ⊎ (l.q + l.n ≤ v / 4) → word_of l.k (lists l.groups.items) i v ≡ word_of l.k (lists l.fn.groups.items) i v;
}
