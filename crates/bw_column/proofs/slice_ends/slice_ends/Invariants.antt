use Rattle.std.proofs.Common.{◌-◌, ◌≤◌}
use Rattle.bw_mask.specs.Masks.{row_at}
use Rattle.bw_code.specs.Columns.{code_at, count}
use Rattle.bw_column.specs.Extremes.{IsGreatestFrom, IsLeastFrom}
use Rattle.bw_column.proofs.slice_ends.slice_ends.Given as goal

abbrev pub invariant-loop-at : goal.invariant-loop-at
invariant-loop-at l = record {
  at : l.at ≤ count l.codes;
  least : IsLeastFrom l.start l.at (row_at l.nonnull) (code_at l.codes) l.ends.0;
  greatest : IsGreatestFrom l.start l.at (row_at l.nonnull) (code_at l.codes) l.ends.1;
}

abbrev pub decreases-loop-at : goal.decreases-loop-at
decreases-loop-at l = count l.codes - l.at
