use Rattle.std.proofs.Common.{ℕ, ◌-◌, ◌<◌, ◌≡◌, ◌≤◌}
use Rattle.std.specs.Prelude.{if◌then◌else◌}
use Rattle.bw_mask.specs.Masks.{SameShape, row_at}
use Rattle.bw_column.proofs.exchanging.exchange_bits.Given as goal

-- the rows before this one are exchanged, and the others are as they were
abbrev pub invariant-loop-at : goal.invariant-loop-at
invariant-loop-at l = record {
  at : l.at ≤ l.end;
  shape : SameShape l.nonnull l.fn.nonnull;
  other_shape : SameShape l.other l.fn.other;
  done : (j : ℕ) → j < l.at → row_at l.nonnull j ≡ (if row_at l.rows j then row_at l.fn.other j else row_at l.fn.nonnull j);
  other_done : (j : ℕ) → j < l.at → row_at l.other j ≡ (if row_at l.rows j then row_at l.fn.nonnull j else row_at l.fn.other j);
  rest : (j : ℕ) → l.at ≤ j → row_at l.nonnull j ≡ row_at l.fn.nonnull j;
  other_rest : (j : ℕ) → l.at ≤ j → row_at l.other j ≡ row_at l.fn.other j;
}

abbrev pub decreases-loop-at : goal.decreases-loop-at
decreases-loop-at l = l.end - l.at
