use Rattle.std.proofs.Common.{get_or, length, true, ℕ, ◌<◌, ◌≡◌}
use Rattle.bw_mask.specs.Masks.{bit_of}
use Rattle.bw_vertical.proofs.runs.equal_words.Given as goal

-- the words so far
abbrev pub invariant-loop-b : goal.invariant-loop-b
invariant-loop-b l = record {
  long : length l.words ≡ 64;
  words : (b r : ℕ) → b < l.b → r < 64 → bit_of l.rows r ≡ true → bit_of (get_or l.words b 0) r ≡ bit_of l.code b;
}
