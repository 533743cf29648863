use Rattle.std.proofs.Common.{[], get_or, length, ℕ, ◌+◌, ◌-◌, ◌<◌, ◌≡◌}
use Rattle.bw_vertical.proofs.storage.take_words.Given as goal

-- the planes so far
abbrev pub invariant-loop-i : goal.invariant-loop-i
invariant-loop-i l = record {
  long : length l.words ≡ length l.fn.words;
  taken : (p : ℕ) → p < l.i → get_or l.words (l.top - p) 0 ≡ get_or (get_or l.group (l.from + p) []) l.lane 0;
  above : (b : ℕ) → l.top < b → get_or l.words b 0 ≡ get_or l.fn.words b 0;
}
