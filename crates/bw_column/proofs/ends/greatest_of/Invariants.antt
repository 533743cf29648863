use Rattle.std.proofs.Common.{Bool, get_or, length, true, ℕ, ◌<◌, ◌≡◌}
use Rattle.bw_column.specs.Extremes.{IsGreatestFrom}
use Rattle.bw_column.proofs.ends.greatest_of.Given as goal

abbrev pub invariant-loop-i : goal.invariant-loop-i
invariant-loop-i l = (has : ℕ → Bool) → ((i : ℕ) → i < length l.codes → has i ≡ true) → IsGreatestFrom l.start l.i has (λ i. get_or l.codes i 0) l.greatest
