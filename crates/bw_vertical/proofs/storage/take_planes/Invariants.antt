use Rattle.std.proofs.Common.{get_or, length, ℕ, ◌*◌, ◌-◌, ◌<◌, ◌≡◌, ◌≤◌}
use Rattle.bw_vertical.specs.Storage.{lists, word_of}
use Rattle.bw_vertical.proofs.storage.take_planes.Given as goal

-- the planes of the groups so far
abbrev pub invariant-whole : goal.invariant-whole
invariant-whole l = record {
  planes : (i : ℕ) → i < 4 * l.g → i < l.k → get_or l.words (l.k - 1 - i) 0 ≡ word_of l.k (lists l.groups) i l.w;
  rest : (b : ℕ) → l.k ≤ b → get_or l.words b 0 ≡ get_or l.fn.words b 0;
  long : length l.words ≡ length l.fn.words;
}

abbrev pub invariant-last : goal.invariant-last
invariant-last l = record {
  planes : (i : ℕ) → i < 4 * l.g → i < l.k → get_or l.words (l.k - 1 - i) 0 ≡ word_of l.k (lists l.groups) i l.w;
  rest : (b : ℕ) → l.k ≤ b → get_or l.words b 0 ≡ get_or l.fn.words b 0;
  long : length l.words ≡ length l.fn.words;
}
