use Rattle.std.proofs.Common.{true, ℕ, ◌*◌, ◌<◌, ◌≡◌}
use Rattle.bw_mask.specs.Masks.{row_in}
use Rattle.bw_mask.proofs.words.is_within.Given as goal

abbrev pub invariant-loop-k : goal.invariant-loop-k
invariant-loop-k l = (j : ℕ) → j < 64 * l.k → row_in l.a j ≡ true → row_in l.b j ≡ true
