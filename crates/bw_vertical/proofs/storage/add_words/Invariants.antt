use Rattle.std.proofs.Common.{bit_or, get_or, ℕ, ◌%◌, ◌*◌, ◌-◌, ◌<◌, ◌^◌, ◌≡◌, ◌≤◌}
use mathlib.Core.Logic.{◌≢◌}
use Rattle.bw_vertical.specs.Storage.{KeepsSizes, lists, word_of}
use Rattle.bw_vertical.proofs.storage.add_words.Given as goal

-- the planes of the groups so far, and the others as they were
abbrev pub invariant-whole : goal.invariant-whole
invariant-whole l = record {
  sizes : KeepsSizes l.groups.items l.fn.groups.items;
  added : (i : ℕ) → i < 4 * l.g → i < l.k → word_of l.k (lists l.groups.items) i l.w
      ≡ bit_or (word_of l.k (lists l.fn.groups.items) i l.w) (get_or l.words (l.k - 1 - i) 0 * 2 ^ l.up % 2 ^ 64);
  rest : (i : ℕ) → 4 * l.g ≤ i → i < l.k → word_of l.k (lists l.groups.items) i l.w ≡ word_of l.k (lists l.fn.groups.items) i l.w;
  other : (i v : ℕ) → i < l.k → v ≢ l.w → word_of l.k (lists l.groups.items) i v ≡ word_of l.k (lists l.fn.groups.items) i v;
}

abbrev pub invariant-last : goal.invariant-last
invariant-last l = record {
  sizes : KeepsSizes l.groups.items l.fn.groups.items;
  added : (i : ℕ) → i < 4 * l.g → i < l.k → word_of l.k (lists l.groups.items) i l.w
      ≡ bit_or (word_of l.k (lists l.fn.groups.items) i l.w) (get_or l.words (l.k - 1 - i) 0 * 2 ^ l.up % 2 ^ 64);
  rest : (i : ℕ) → 4 * l.g ≤ i → i < l.k → word_of l.k (lists l.groups.items) i l.w ≡ word_of l.k (lists l.fn.groups.items) i l.w;
  other : (i v : ℕ) → i < l.k → v ≢ l.w → word_of l.k (lists l.groups.items) i v ≡ word_of l.k (lists l.fn.groups.items) i v;
}
