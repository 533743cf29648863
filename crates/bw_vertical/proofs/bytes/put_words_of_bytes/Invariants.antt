use Rattle.std.proofs.Common.{get_or, length, ℕ, ◌+◌, ◌<◌, ◌≡◌}
use Rattle.bw_mask.specs.Masks.{bit_of}
use Rattle.bw_vertical.proofs.bytes.put_words_of_bytes.Given as goal

-- the words so far
abbrev pub invariant-loop-t : goal.invariant-loop-t
invariant-loop-t l = record {
  long : length l.words ≡ length l.fn.words;
  inside : (u r : ℕ) → u < l.t → r < 64 → bit_of (get_or l.words (l.at + u) 0) r ≡ bit_of (get_or l.bytes r 0) u;
  before : (b : ℕ) → b < l.at → get_or l.words b 0 ≡ get_or l.fn.words b 0;
}
