use Rattle.std.proofs.Common.{get_or, ◌*◌, ◌+◌, ◌≡◌, ◌≤◌}
use Rattle.bw_mask.specs.Masks.{row_at}
use Rattle.bw_code.specs.Units.{cost_of, segmentation, sum_below}
use Rattle.test_codes.proofs.units.column_units.Given as goal

abbrev pub invariant-loop-q : goal.invariant-loop-q
invariant-loop-q l = record {
  units : l.units ≡ (let cut = segmentation l.layout l.width in sum_below l.q (λ q. cost_of cut (λ j. row_at l.need (cut.rows * q + j)) (λ j. get_or l.agreed (cut.rows * q + j) 0)));
  most : l.units ≤ 65 * l.q;
}
