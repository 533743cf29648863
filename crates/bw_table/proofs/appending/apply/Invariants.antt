use Rattle.std.proofs.Common.{◌≡◌, ◌≤◌, ◌<◌, ℕ, take, get_or, vec_len}
use Rattle.bw_column.specs.Columns.{ColumnView}
use Rattle.bw_table.specs.Halves.{AllMadeFrom}
use Rattle.bw_table.proofs.appending.apply.Given as goal

-- the columns below the rest are as they were, those from it on have taken their values
abbrev pub invariant-loop-last : goal.invariant-loop-last
invariant-loop-last l = record {
  count : vec_len l.columns ≡ vec_len l.fn.columns;
  few : vec_len l.rest ≤ vec_len l.columns;
  rest : l.rest.items ≡ take (vec_len l.rest) l.fn.prepared.items;
  same : (k : ℕ) (c : ColumnView) → k < vec_len l.rest → get_or l.columns.items k c ≡ get_or l.fn.columns.items k c;
  made : AllMadeFrom (vec_len l.rest) l.rows l.columns.items l.fn.columns.items;
}

abbrev pub decreases-loop-last : goal.decreases-loop-last
decreases-loop-last l = vec_len l.rest
