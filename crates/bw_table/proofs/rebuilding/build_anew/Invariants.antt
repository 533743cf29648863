use Rattle.std.proofs.Common.{◌≡◌, ◌<◌, ℕ, get_or, vec_len}
use Rattle.bw_column.specs.Columns.{ColumnView}
use Rattle.bw_table.specs.Sets.{IsBuilt}
use Rattle.bw_table.proofs.rebuilding.build_anew.Given as goal

-- the columns below k are built
abbrev pub invariant-loop-k : goal.invariant-loop-k
invariant-loop-k l = record {
  count : vec_len l.built ≡ l.k;
  each : (k : ℕ) (d : ColumnView) → k < l.k → IsBuilt l.mask l.choices l.columns.items k (get_or l.built.items k d) (get_or l.columns.items k d);
}
