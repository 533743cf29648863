use Rattle.std.proofs.Common.{ℕ, ◌*◌, ◌+◌, ◌-◌, ◌<◌, ◌≡◌, ◌≤◌}
use Rattle.std.specs.Prelude.{if◌then◌else◌}
use Rattle.bw_mask.specs.Masks.{bit_of, row_at}
use Rattle.bw_vertical.specs.Storage.{KeepsSizes, code_of, is_set, lists, word_of}
use Rattle.bw_vertical.proofs.copying.copy_codes.Given as goal

-- the segments so far are done, and the others are as they were
abbrev pub invariant-runs : goal.invariant-runs
invariant-runs l = record {
  within : l.q ≤ l.segments;
  done : (i j : ℕ) → i < l.k → j < 256 * l.q → is_set l.k (lists l.groups.items) i j
      ≡ (if row_at l.rows j then bit_of (code_of l.own (lists l.others) j + (if row_at l.moved j then l.by else 0)) (l.k - 1 - i) else is_set l.k (lists l.fn.groups.items) i j);
  left : (i v : ℕ) → i < l.k → 4 * l.q ≤ v → word_of l.k (lists l.groups.items) i v ≡ word_of l.k (lists l.fn.groups.items) i v;
  sizes : KeepsSizes l.groups.items l.fn.groups.items;
}

abbrev pub decreases-runs : goal.decreases-runs
decreases-runs l = l.segments - l.q
