use Rattle.std.proofs.Common.{ℕ, ◌%◌, ◌*◌, ◌+◌, ◌-◌, ◌/◌, ◌<◌, ◌≡◌, ◌≤◌, ◌⊎◌}
use mathlib.Core.Logic.{◌≢◌}
use Rattle.std.specs.Prelude.{if◌then◌else◌}
use Rattle.bw_mask.specs.Masks.{bit_of, row_in}
use Rattle.bw_vertical.specs.Carries.{carried, lane_bit}
use Rattle.bw_vertical.specs.Storage.{KeepsSizes, code_of, is_set, lists, word_of}
use Rattle.bw_vertical.proofs.shifting.shift_segment.Given as goal

-- the planes of the last group are added, and those of the others are as they were
abbrev pub invariant-last : goal.invariant-last
invariant-last l = record {
  sizes : KeepsSizes l.groups.items l.fn.groups.items;
  done : (i j : ℕ) → l.k / 4 ≤ i / 4 → i / 4 < l.g → i < l.k → j < 256 → is_set l.k (lists l.groups.items) i (256 * l.q + j)
      ≡ bit_of (code_of l.k (lists l.fn.groups.items) (256 * l.q + j) + (if row_in l.rows j then l.by else 0)) (l.k - 1 - i);
  carry : (j : ℕ) → j < 256 → lane_bit l.carry j ≡ carried (code_of l.k (lists l.fn.groups.items) (256 * l.q + j)) (if row_in l.rows j then l.by else 0) (l.k % 4 - 4 * (l.k / 4 + 1 - l.g));
  left : (i v : ℕ) → (i / 4 < l.k / 4) ⊎ (l.g ≤ i / 4) → i < l.k → word_of l.k (lists l.groups.items) i v ≡ word_of l.k (lists l.fn.groups.items) i v;
  other : (i v : ℕ) → i < l.k → v / 4 ≢ l.q → word_of l.k (lists l.groups.items) i v ≡ word_of l.k (lists l.fn.groups.items) i v;
}

-- the planes of the last n whole groups are added too
abbrev pub invariant-whole : goal.invariant-whole
invariant-whole l = record {
  sizes : KeepsSizes l.groups.items l.fn.groups.items;
  done : (i j : ℕ) → l.k / 4 - l.n ≤ i / 4 → i < l.k → j < 256 → is_set l.k (lists l.groups.items) i (256 * l.q + j)
      ≡ bit_of (code_of l.k (lists l.fn.groups.items) (256 * l.q + j) + (if row_in l.rows j then l.by else 0)) (l.k - 1 - i);
  carry : (j : ℕ) → j < 256 → lane_bit l.carry j ≡ carried (code_of l.k (lists l.fn.groups.items) (256 * l.q + j)) (if row_in l.rows j then l.by else 0) (l.k - 4 * (l.k / 4 - l.n));
  left : (i v : ℕ) → i / 4 < l.k / 4 - l.n → i < l.k → word_of l.k (lists l.groups.items) i v ≡ word_of l.k (lists l.fn.groups.items) i v;
  other : (i v : ℕ) → i < l.k → v / 4 ≢ l.q → word_of l.k (lists l.groups.items) i v ≡ word_of l.k (lists l.fn.groups.items) i v;
}
