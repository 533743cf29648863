use Rattle.std.proofs.Common.{arith, inl, inr, refl, sym, ℕ, ◌*◌, ◌+◌, ◌∙◌}
use Rattle.bw_mask.specs.Masks.{bit_of}
use Rattle.bw_mask.proofs.Bits.{bit_of_zero}
use Rattle.bw_code.proofs.Digits.{compared_none}
use Rattle.bw_code.proofs.Segments.{none_of_two, rows_final, rows_left_of_two, within_ends}
use Rattle.bw_byteslice.proofs.Steps.{cost_stopped, left_more, none_left, number_in_fits, slice_more, some_left}
use Rattle.bw_byteslice.proofs.scan.between.Goals as goal

pub loop-i-init : goal.loop-i-init
loop-i-init g c = record {
  units = refl;
  reads = omega arith;
  left = omega arith;
  lo = λ r h. compared_none 256 c.args.m _ c.args.low (omega arith) (number_in_fits _ _ c.requires.bytes _) c.requires.low _ _ _ (bit_of_zero r) refl;
  hi = λ r h. compared_none 256 c.args.m _ c.args.high (omega arith) (number_in_fits _ _ c.requires.bytes _) c.requires.high _ _ _ (bit_of_zero r) refl;
}

pub loop-i-preserved : goal.loop-i-preserved
loop-i-preserved g c =
    let lo = slice_more c.args.m _ _ c.args.q c.loop-i.i c.args.low _ c.requires.bytes c.requires.there c.loop-i-test.true c.requires.low c.loop-i.invariant.units c.read-slice.ensures.unit (bit_of c.args.need) _ _ _ _ _ c.byte_at.ensures c.byte_step.ensures.less c.byte_step.ensures.same c.loop-i.invariant.lo in
    let hi = slice_more c.args.m _ _ c.args.q c.loop-i.i c.args.high _ c.requires.bytes c.requires.there c.loop-i-test.true c.requires.high c.loop-i.invariant.units c.read-slice.ensures.unit (bit_of c.args.need) _ _ _ _ _ c.byte_at-in-loop-i.ensures c.byte_step-in-loop-i.ensures.less c.byte_step-in-loop-i.ensures.same c.loop-i.invariant.hi in
    let left = rows_left_of_two 32 (c.loop-i.i + 1) (bit_of c.args.need) (bit_of c.either.result) _ _ _ _ (λ r h. c.either.ensures r) lo.1 hi.1 c.requires.needed in
    record {
      units = c.read-slice.ensures.units ∙ c.loop-i.invariant.units;
      reads = omega (arith, c.read-slice.ensures.reads, c.loop-i.invariant.reads);
      left = left_more c.args.m _ _ _ _ c.requires.needed left (some_left _ (sym c.is_empty.ensures ∙ c.if-is_empty.false));
      lo = lo.0;
      hi = hi.0;
    }

pub returns-then-is_empty : goal.returns-then-is_empty
returns-then-is_empty g c =
    let fits = λ (r : ℕ). number_in_fits c.args.m (g.S.Source.units c.args.source.now) c.requires.bytes (32 * c.args.q + r) in
    let lo = slice_more c.args.m _ _ c.args.q c.loop-i.i c.args.low _ c.requires.bytes c.requires.there c.loop-i-test.true c.requires.low c.loop-i.invariant.units c.read-slice.ensures.unit (bit_of c.args.need) _ _ _ _ _ c.byte_at.ensures c.byte_step.ensures.less c.byte_step.ensures.same c.loop-i.invariant.lo in
    let hi = slice_more c.args.m _ _ c.args.q c.loop-i.i c.args.high _ c.requires.bytes c.requires.there c.loop-i-test.true c.requires.high c.loop-i.invariant.units c.read-slice.ensures.unit (bit_of c.args.need) _ _ _ _ _ c.byte_at-in-loop-i.ensures c.byte_step-in-loop-i.ensures.less c.byte_step-in-loop-i.ensures.same c.loop-i.invariant.hi in
    let left = rows_left_of_two 32 (c.loop-i.i + 1) (bit_of c.args.need) (bit_of c.either.result) _ _ _ _ (λ r h. c.either.ensures r) lo.1 hi.1 c.requires.needed in
    let none = none_left _ (sym c.is_empty.ensures ∙ c.if-is_empty.true) in
    let cost = cost_stopped c.args.m _ _ _ _ c.requires.needed left none c.loop-i.invariant.left c.loop-i-test.true in
    let gone = none_of_two 32 (bit_of c.either.result) (bit_of c.byte_step.new.eq) (bit_of c.byte_step-in-loop-i.new.eq) (λ r h. c.either.ensures r) none in
    let low_end = rows_final 32 256 c.args.m (bit_of c.args.need) _ c.args.low _ _ _ (omega arith) fits c.requires.low lo.0 (inr gone.0) in
    let high_end = rows_final 32 256 c.args.m (bit_of c.args.need) _ c.args.high _ _ _ (omega arith) fits c.requires.high hi.0 (inr gone.1) in
    record {
      units = c.read-slice.ensures.units ∙ c.loop-i.invariant.units;
      reads = omega (arith, c.read-slice.ensures.reads, c.loop-i.invariant.reads, cost);
      rows = λ r h. c.inside.ensures r ∙ within_ends _ _ _ _ _ c.args.low c.args.high (low_end r h).0 (high_end r h).0 (high_end r h).1;
    }

pub returns-clause-rows : goal.returns-clause-rows
returns-clause-rows g c r h =
    let fits = λ (r : ℕ). number_in_fits c.args.m (g.S.Source.units c.args.source.now) c.requires.bytes (32 * c.args.q + r) in
    let low = rows_final 32 256 c.args.m (bit_of c.args.need) _ c.args.low c.loop-i.i _ _ (omega arith) fits c.requires.low c.loop-i.invariant.lo (inl (omega arith)) r h in
    let high = rows_final 32 256 c.args.m (bit_of c.args.need) _ c.args.high c.loop-i.i _ _ (omega arith) fits c.requires.high c.loop-i.invariant.hi (inl (omega arith)) r h in
    c.inside-2.ensures r ∙ within_ends _ _ _ _ _ c.args.low c.args.high low.0 high.0 high.1
