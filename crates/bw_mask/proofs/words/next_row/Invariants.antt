use Rattle.std.proofs.Common.{◌≡◌, ℕ, ◌<◌, ◌≤◌, ◌*◌, false}
use Rattle.bw_mask.specs.Masks.{row_in}
use Rattle.bw_mask.proofs.words.next_row.Given as goal

abbrev pub invariant-loop-k : goal.invariant-loop-k
invariant-loop-k l = (j : ℕ) → l.i ≤ j → j < 64 * l.k → row_in l.words j ≡ false
