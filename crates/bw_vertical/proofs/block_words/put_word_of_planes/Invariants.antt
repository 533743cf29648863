use Rattle.std.proofs.Common.{[], get_or, length, ℕ, ◌<◌, ◌≡◌, ◌≤◌}
use mathlib.Core.Logic.{◌≢◌}
use Rattle.bw_vertical.proofs.block_words.put_word_of_planes.Given as goal

-- the words so far
abbrev pub invariant-loop-b : goal.invariant-loop-b
invariant-loop-b l = record {
  long : length l.block ≡ 64;
  written : (b : ℕ) → b < l.b → get_or (get_or l.block b []) l.j 0 ≡ get_or l.words b 0;
  rest : (b m : ℕ) → l.b ≤ b → get_or (get_or l.block b []) m 0 ≡ get_or (get_or l.fn.block b []) m 0;
  others : (b m : ℕ) → m ≢ l.j → get_or (get_or l.block b []) m 0 ≡ get_or (get_or l.fn.block b []) m 0;
}
