use Rattle.std.proofs.Common.{min, true, ℕ, ◌&&◌, ◌*◌, ◌^◌, ◌≡◌, ◌≤◌}
use Rattle.bw_mask.specs.Masks.{row_at}
use Rattle.bw_code.specs.Columns.{code_at, count}
use Rattle.bw_aggregate.specs.Ends.{AreNearest}
use Rattle.bw_aggregate.specs.Runs.{code_sum}
use Rattle.bw_aggregate.proofs.tally_runs.tally_in_runs.Given as goal

abbrev pub invariant-runs : goal.invariant-runs
invariant-runs g l = record {
  total : l.sum ≡ true → l.total ≡ code_sum l.rows.rows (g.C.CodeColumn.seen l.column).codes (min (64 * l.q) (count (g.C.CodeColumn.seen l.column)));
  small : l.total ≤ l.q * (65 * 2 ^ 64);
  nearest : AreNearest (min (64 * l.q) (count (g.C.CodeColumn.seen l.column))) (λ (r : ℕ). row_at l.rows r && row_at l.nonnull r) (code_at (g.C.CodeColumn.seen l.column)) l.top l.fn.far l.best;
}
