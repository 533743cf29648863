use Rattle.std.proofs.Common.{[], get_or, length, ℕ, ◌<◌, ◌≡◌, ◌≤◌}
use Rattle.bw_vertical.proofs.block_words.read_word_of_planes.Given as goal

-- the words so far
abbrev pub invariant-loop-b : goal.invariant-loop-b
invariant-loop-b l = record {
  long : length l.words ≡ 64;
  read : (b : ℕ) → b < l.b → get_or l.words b 0 ≡ get_or (get_or l.block b []) l.j 0;
  rest : (b : ℕ) → l.b ≤ b → get_or l.words b 0 ≡ get_or l.fn.words b 0;
}
