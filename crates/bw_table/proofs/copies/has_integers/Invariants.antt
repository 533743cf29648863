use Rattle.std.proofs.Common.{true, ℕ, ◌-◌, ◌<◌, ◌≡◌, ◌≤◌}
use Rattle.bw_mask.specs.Masks.{len, row_at}
use Rattle.bw_code.specs.Types.{IsNullOrOfType}
use Rattle.bw_code.specs.declared.kind.ColumnType.TheVariants.{Integer}
use Rattle.bw_column.specs.Values.{value_at}
use Rattle.bw_table.proofs.copies.has_integers.Given as goal

-- the rows below this one have no other values
abbrev pub invariant-loop-row : goal.invariant-loop-row
invariant-loop-row l = record {
  at : l.at ≤ len l.mask;
  each : (i : ℕ) → i < l.at → row_at l.mask i ≡ true → IsNullOrOfType Integer (value_at l.column.values i);
}

abbrev pub decreases-loop-row : goal.decreases-loop-row
decreases-loop-row l = len l.mask - l.at
