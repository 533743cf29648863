use Rattle.std.proofs.Common.{arith, inr, refl, sym, ◌*◌, ◌+◌, ◌∙◌}
use Rattle.bw_mask.specs.Masks.{bit_of}
use Rattle.bw_mask.proofs.Bits.{bit_of_zero}
use Rattle.bw_code.proofs.Digits.{compared_none}
use Rattle.bw_code.proofs.Reach.{left_is}
use Rattle.bw_code.proofs.Segments.{rows_final}
use Rattle.bw_byteslice.proofs.Steps.{cost_stopped, left_more, none_left, number_in_fits, slice_more, some_left}
use Rattle.bw_byteslice.proofs.scan.compare.Goals as goal

pub loop-i-init : goal.loop-i-init
loop-i-init g c = record {
  units = refl;
  reads = omega arith;
  left = omega arith;
  rows = λ r h. compared_none 256 c.args.m _ c.args.constant (omega arith) (number_in_fits _ _ c.requires.bytes _) c.requires.constant _ _ _ (bit_of_zero r) refl;
}

pub loop-i-preserved : goal.loop-i-preserved
loop-i-preserved g c =
    let step = slice_more c.args.m _ _ c.args.q c.loop-i.i c.args.constant _ c.requires.bytes c.requires.there c.loop-i-test.true c.requires.constant c.loop-i.invariant.units c.read-slice.ensures.unit (bit_of c.args.need) _ _ _ _ _ c.byte_at.ensures c.byte_step.ensures.less c.byte_step.ensures.same c.loop-i.invariant.rows in
    record {
      units = c.read-slice.ensures.units ∙ c.loop-i.invariant.units;
      reads = omega (arith, c.read-slice.ensures.reads, c.loop-i.invariant.reads);
      left = left_more c.args.m _ _ _ _ c.requires.needed (left_is 32 _ _ _ _ step.1 c.requires.needed) (some_left _ (sym c.is_empty.ensures ∙ c.if-is_empty.false));
      rows = step.0;
    }

pub returns-then-is_empty : goal.returns-then-is_empty
returns-then-is_empty g c =
    let step = slice_more c.args.m _ _ c.args.q c.loop-i.i c.args.constant _ c.requires.bytes c.requires.there c.loop-i-test.true c.requires.constant c.loop-i.invariant.units c.read-slice.ensures.unit (bit_of c.args.need) _ _ _ _ _ c.byte_at.ensures c.byte_step.ensures.less c.byte_step.ensures.same c.loop-i.invariant.rows in
    let none = none_left _ (sym c.is_empty.ensures ∙ c.if-is_empty.true) in
    let cost = cost_stopped c.args.m _ _ _ _ c.requires.needed (left_is 32 _ _ _ _ step.1 c.requires.needed) none c.loop-i.invariant.left c.loop-i-test.true in
    let masks = rows_final 32 256 c.args.m (bit_of c.args.need) _ c.args.constant _ _ _ (omega arith) (λ r. number_in_fits c.args.m (g.S.Source.units c.args.source.now) c.requires.bytes (32 * c.args.q + r)) c.requires.constant step.0 (inr none) in
    record {
      units = c.read-slice.ensures.units ∙ c.loop-i.invariant.units;
      reads = omega (arith, c.read-slice.ensures.reads, c.loop-i.invariant.reads, cost);
      less = λ r h. (masks r h).0;
      same = λ r h. (masks r h).1;
    }
