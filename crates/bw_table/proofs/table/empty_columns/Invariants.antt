use Rattle.std.proofs.Common.{get_or, ℕ, ◌<◌, ◌≡◌, vec_len}
use Rattle.bw_column.specs.Columns.{ColumnView}
use Rattle.bw_table.specs.Sets.{IsEmptyAs}
use Rattle.bw_table.proofs.table.empty_columns.Given as goal

-- a column without values for each header so far
abbrev pub invariant-loop-header : goal.invariant-loop-header
invariant-loop-header g l = record {
  count : vec_len l.columns ≡ l.header-index;
  each : (k : ℕ) (h : _) (d : ColumnView) → k < l.header-index → IsEmptyAs (get_or l.headers.items k h) (get_or l.columns.items k d);
}
