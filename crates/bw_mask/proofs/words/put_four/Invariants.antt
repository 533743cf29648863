use Rattle.std.proofs.Common.{length, ℕ, ◌*◌, ◌+◌, ◌<◌, ◌≡◌, ◌≤◌}
use Rattle.bw_mask.specs.Masks.{row_in}
use Rattle.bw_mask.proofs.words.put_four.Given as goal

-- the words so far
abbrev pub invariant-loop-i : goal.invariant-loop-i
invariant-loop-i l = record {
  len : length l.words ≡ length l.fn.words;
  inside : (j : ℕ) → j < 64 * l.i → row_in l.words (256 * l.q + j) ≡ row_in l.lanes j;
  other : (j : ℕ) → (256 * l.q ≤ j → 256 * l.q + 256 ≤ j) → row_in l.words j ≡ row_in l.fn.words j;
}
