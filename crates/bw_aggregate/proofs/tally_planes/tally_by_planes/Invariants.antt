use Rattle.std.proofs.Common.{false, sum, true, ℕ, ◌&&◌, ◌*◌, ◌-◌, ◌^◌, ◌≡◌, ◌≤◌}
use Rattle.bw_mask.specs.Masks.{row_at}
use Rattle.bw_code.specs.Columns.{code_at}
use Rattle.bw_aggregate.specs.Ends.{AreNearest}
use Rattle.bw_aggregate.specs.Left.{codes_between}
use Rattle.bw_aggregate.proofs.tally_planes.tally_by_planes.Given as goal

abbrev pub invariant-segments : goal.invariant-segments
invariant-segments l = record {
  total : l.sum ≡ true → l.total ≡ sum (codes_between l.rows.rows l.codes.codes 0 (256 * l.q));
  unasked : l.sum ≡ false → l.total ≡ 0;
  small : l.total ≤ l.q * 2 ^ 97;
  nearest : AreNearest (256 * l.q) (λ (r : ℕ). row_at l.rows r && row_at l.nonnull r) (code_at l.codes) (2 ^ l.codes.width - 1) l.fn.far l.best;
}
