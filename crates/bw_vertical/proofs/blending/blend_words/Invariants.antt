use Rattle.std.proofs.Common.{get_or, ℕ, ◌*◌, ◌-◌, ◌<◌, ◌≡◌, ◌≤◌}
use mathlib.Core.Logic.{◌≢◌}
use Rattle.bw_vertical.specs.Storage.{KeepsSizes, blended, lists, word_of}
use Rattle.bw_vertical.proofs.blending.blend_words.Given as goal

-- the planes of the groups so far, and the others as they were
abbrev pub invariant-whole : goal.invariant-whole
invariant-whole l = record {
  sizes : KeepsSizes l.groups.items l.fn.groups.items;
  put : (i : ℕ) → i < 4 * l.g → i < l.k → word_of l.k (lists l.groups.items) i l.w
      ≡ blended l.rows (get_or l.words (l.k - 1 - i) 0) (word_of l.k (lists l.fn.groups.items) i l.w);
  rest : (i : ℕ) → 4 * l.g ≤ i → i < l.k → word_of l.k (lists l.groups.items) i l.w ≡ word_of l.k (lists l.fn.groups.items) i l.w;
  other : (i v : ℕ) → i < l.k → v ≢ l.w → word_of l.k (lists l.groups.items) i v ≡ word_of l.k (lists l.fn.groups.items) i v;
}

abbrev pub invariant-last : goal.invariant-last
invariant-last l = record {
  sizes : KeepsSizes l.groups.items l.fn.groups.items;
  put : (i : ℕ) → i < 4 * l.g → i < l.k → word_of l.k (lists l.groups.items) i l.w
      ≡ blended l.rows (get_or l.words (l.k - 1 - i) 0) (word_of l.k (lists l.fn.groups.items) i l.w);
  rest : (i : ℕ) → 4 * l.g ≤ i → i < l.k → word_of l.k (lists l.groups.items) i l.w ≡ word_of l.k (lists l.fn.groups.items) i l.w;
  other : (i v : ℕ) → i < l.k → v ≢ l.w → word_of l.k (lists l.groups.items) i v ≡ word_of l.k (lists l.fn.groups.items) i v;
}
