use Rattle.std.proofs.Common.{[], get_or, ℕ, ◌*◌, ◌+◌, ◌-◌, ◌/◌, ◌<◌, ◌≡◌, ◌≤◌}
use mathlib.Core.Logic.{◌≢◌}
use Rattle.bw_vertical.specs.Storage.{lists, word_of}
use Rattle.bw_vertical.proofs.plane_blocks.take_segment.Given as goal

-- the planes of the groups so far
abbrev pub invariant-whole : goal.invariant-whole
invariant-whole l = record {
  taken : (i w : ℕ) → i < 4 * l.g → i < l.k → w < 4 → get_or (get_or l.block (l.k - 1 - i) []) (4 * l.s + w) 0 ≡ word_of l.k (lists l.groups) i (4 * l.q + w);
  others : (b w : ℕ) → w / 4 ≢ l.s → get_or (get_or l.block b []) w 0 ≡ get_or (get_or l.fn.block b []) w 0;
  rest : (b w : ℕ) → l.k ≤ b → get_or (get_or l.block b []) w 0 ≡ get_or (get_or l.fn.block b []) w 0;
}

abbrev pub invariant-last : goal.invariant-last
invariant-last l = record {
  taken : (i w : ℕ) → i < 4 * l.g → i < l.k → w < 4 → get_or (get_or l.block (l.k - 1 - i) []) (4 * l.s + w) 0 ≡ word_of l.k (lists l.groups) i (4 * l.q + w);
  others : (b w : ℕ) → w / 4 ≢ l.s → get_or (get_or l.block b []) w 0 ≡ get_or (get_or l.fn.block b []) w 0;
  rest : (b w : ℕ) → l.k ≤ b → get_or (get_or l.block b []) w 0 ≡ get_or (get_or l.fn.block b []) w 0;
}
