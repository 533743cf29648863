use Rattle.std.proofs.Common.{List, Option, length, min, ℤ, ◌*◌, ◌^◌, ◌≡◌, ◌≤◌}
use Rattle.std.specs.Prelude.{unsigned_abs}
use Rattle.bw_mask.specs.Masks.{row_at}
use Rattle.bw_code.specs.Columns.{count}
use Rattle.bw_aggregate.specs.Entries.{AreFound}
use Rattle.bw_aggregate.specs.Runs.{value_total}
use Rattle.bw_aggregate.proofs.entry_sums.sum_in_runs.Given as goal

abbrev pub invariant-runs : goal.invariant-runs
invariant-runs g l = record {
  total : (all : List (Option ℤ)) → length all ≡ count (g.C.CodeColumn.seen l.column) → AreFound all l.entries (g.C.CodeColumn.seen l.column).codes (row_at l.nonnull)
      → l.total ≡ value_total l.rows.rows all (min (64 * l.q) (count (g.C.CodeColumn.seen l.column)));
  small : unsigned_abs l.total ≤ l.q * (64 * 2 ^ 63);
}
