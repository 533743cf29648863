use Rattle.std.proofs.Common.{ℕ, ◌-◌, ◌<◌, ◌≡◌, ◌≤◌}
use Rattle.std.specs.Prelude.{if◌then◌else◌}
use Rattle.bw_mask.specs.Masks.{SameShape, row_at}
use Rattle.bw_column.proofs.stored_copy.put_all_present.Given as goal

-- the rows before this one are done, and the others are as they were
abbrev pub invariant-loop-at : goal.invariant-loop-at
invariant-loop-at l = record {
  at : l.at ≤ l.end;
  shape : SameShape l.nonnull l.fn.nonnull;
  done : (j : ℕ) → j < l.at → row_at l.nonnull j ≡ (if row_at l.rows j then row_at l.present j else row_at l.fn.nonnull j);
  rest : (j : ℕ) → l.at ≤ j → row_at l.nonnull j ≡ row_at l.fn.nonnull j;
}

abbrev pub decreases-loop-at : goal.decreases-loop-at
decreases-loop-at l = l.end - l.at
