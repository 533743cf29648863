use Rattle.std.proofs.Common.{get_or, length, ◌-◌, ◌≤◌}
use Rattle.bw_mask.specs.Masks.{row_at}
use Rattle.bw_column.specs.Extremes.{IsGreatestFrom, IsLeastFrom}
use Rattle.bw_column.proofs.lent_ends.wide_ends.Given as goal

abbrev pub invariant-loop-at : goal.invariant-loop-at
invariant-loop-at l = record {
  at : l.at ≤ length l.codes;
  least : IsLeastFrom l.start l.at (row_at l.nonnull) (λ i. get_or l.codes i 0) l.ends.0;
  greatest : IsGreatestFrom l.start l.at (row_at l.nonnull) (λ i. get_or l.codes i 0) l.ends.1;
}

abbrev pub decreases-loop-at : goal.decreases-loop-at
decreases-loop-at l = length l.codes - l.at
