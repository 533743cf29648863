use Rattle.std.proofs.Common.{arith, get_or, sym, ℕ, ◌*◌, ◌+◌}
use Rattle.bw_mask.specs.Masks.{row_at}
use Rattle.bw_code.specs.Units.{cost_of, segmentation}
use Rattle.test_codes.proofs.UnitLemmas.{sum_more, sum_none}
use Rattle.test_codes.proofs.units.column_units.Goals as goal

pub loop-q-init : goal.loop-q-init
loop-q-init c = record { units = sym (sum_none _); most = omega arith }

pub loop-q-preserved : goal.loop-q-preserved
loop-q-preserved c =
    let cut = segmentation c.args.layout c.args.width in
    let each : ℕ → ℕ = λ q. cost_of cut (λ j. row_at c.args.need.now (cut.rows * q + j)) (λ j. get_or c.args.agreed.now (cut.rows * q + j) 0) in
    record {
      units = rw (c.loop-q.invariant.units, c.segment_units-units.ensures.units) (sym (sum_more c.loop-q.q each));
      most = omega (arith, c.loop-q.invariant.most, c.segment_units-units.ensures.most);
    }
