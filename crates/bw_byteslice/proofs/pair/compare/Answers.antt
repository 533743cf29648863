use Rattle.std.proofs.Common.{arith, inr, refl, sym, ℕ, ◌*◌, ◌+◌, ◌∙◌}
use Rattle.bw_mask.specs.Masks.{bit_of}
use Rattle.bw_mask.proofs.Bits.{bit_of_zero}
use Rattle.bw_code.proofs.Digits.{compared_none}
use Rattle.bw_code.proofs.Reach.{left_is}
use Rattle.bw_code.proofs.Segments.{sides_final}
use Rattle.bw_byteslice.specs.Slices.{number_in}
use Rattle.bw_byteslice.proofs.Steps.{byte_is, bytes_more, cost_stopped, left_more, none_left, number_in_fits, some_left}
use Rattle.bw_byteslice.proofs.pair.compare.Goals as goal

pub loop-i-init : goal.loop-i-init
loop-i-init g c = record {
  units = refl;
  other_units = refl;
  reads = omega arith;
  other_reads = omega arith;
  left = omega arith;
  rows = λ r h. compared_none 256 c.args.m _ _ (omega arith) (number_in_fits _ _ c.requires.bytes _) (number_in_fits _ _ c.requires.other_bytes _) _ _ _ (bit_of_zero r) refl;
}

pub loop-i-preserved : goal.loop-i-preserved
loop-i-preserved g c =
    let number : ℕ → ℕ = λ r. number_in c.args.m (g.A.Source.units c.args.a.now) (32 * c.args.q + r) in
    let other : ℕ → ℕ = λ r. number_in c.args.m (g.B.Source.units c.args.b.now) (32 * c.args.q + r) in
    let byte = byte_is c.args.m _ _ c.args.q c.loop-i.i _ c.requires.bytes c.requires.there c.loop-i-test.true c.loop-i.invariant.units c.read-left.ensures.unit in
    let also = byte_is c.args.m _ _ c.args.q c.loop-i.i _ c.requires.other_bytes c.requires.other_there c.loop-i-test.true c.loop-i.invariant.other_units c.read-right.ensures.unit in
    let step = bytes_more c.args.m c.loop-i.i c.loop-i-test.true number other (λ r. number_in_fits _ _ c.requires.bytes _) (λ r. number_in_fits _ _ c.requires.other_bytes _) (bit_of c.args.need) _ _ _ _ _ _ byte also c.byte_pair_step.ensures.less c.byte_pair_step.ensures.same c.loop-i.invariant.rows in
    record {
      units = c.read-left.ensures.units ∙ c.loop-i.invariant.units;
      other_units = c.read-right.ensures.units ∙ c.loop-i.invariant.other_units;
      reads = omega (arith, c.read-left.ensures.reads, c.loop-i.invariant.reads);
      other_reads = omega (arith, c.read-right.ensures.reads, c.loop-i.invariant.other_reads);
      left = left_more c.args.m _ _ _ _ c.requires.needed (left_is 32 _ _ _ _ step.1 c.requires.needed) (some_left _ (sym c.is_empty.ensures ∙ c.if-is_empty.false));
      rows = step.0;
    }

pub returns-then-is_empty : goal.returns-then-is_empty
returns-then-is_empty g c =
    let number : ℕ → ℕ = λ r. number_in c.args.m (g.A.Source.units c.args.a.now) (32 * c.args.q + r) in
    let other : ℕ → ℕ = λ r. number_in c.args.m (g.B.Source.units c.args.b.now) (32 * c.args.q + r) in
    let byte = byte_is c.args.m _ _ c.args.q c.loop-i.i _ c.requires.bytes c.requires.there c.loop-i-test.true c.loop-i.invariant.units c.read-left.ensures.unit in
    let also = byte_is c.args.m _ _ c.args.q c.loop-i.i _ c.requires.other_bytes c.requires.other_there c.loop-i-test.true c.loop-i.invariant.other_units c.read-right.ensures.unit in
    let step = bytes_more c.args.m c.loop-i.i c.loop-i-test.true number other (λ r. number_in_fits _ _ c.requires.bytes _) (λ r. number_in_fits _ _ c.requires.other_bytes _) (bit_of c.args.need) _ _ _ _ _ _ byte also c.byte_pair_step.ensures.less c.byte_pair_step.ensures.same c.loop-i.invariant.rows in
    let none = none_left _ (sym c.is_empty.ensures ∙ c.if-is_empty.true) in
    let cost = cost_stopped c.args.m _ _ _ _ c.requires.needed (left_is 32 _ _ _ _ step.1 c.requires.needed) none c.loop-i.invariant.left c.loop-i-test.true in
    let masks = sides_final 32 256 c.args.m (bit_of c.args.need) number other _ _ _ (omega arith) (λ r. number_in_fits _ _ c.requires.bytes _) (λ r. number_in_fits _ _ c.requires.other_bytes _) step.0 (inr none) in
    record {
      units = c.read-left.ensures.units ∙ c.loop-i.invariant.units;
      other_units = c.read-right.ensures.units ∙ c.loop-i.invariant.other_units;
      reads = omega (arith, c.read-left.ensures.reads, c.loop-i.invariant.reads, cost);
      other_reads = omega (arith, c.read-right.ensures.reads, c.loop-i.invariant.other_reads, cost);
      less = λ r h. (masks r h).0;
      same = λ r h. (masks r h).1;
    }
