use Rattle.std.proofs.Common.{FitsSigned, arith, below_more, cond, get_or, get_or-set_other, get_or-set_same, length, of_z, rules, to_z, w64, ◌<◌, ◌≡◌, ◌≢◌}
use Rattle.std.proofs.lemmas.Int.{to_z-of_z}
use Rattle.bw_mask.specs.Masks.{bit_of}
use Rattle.bw_engine.specs.Codes.{rebased}
use Rattle.bw_engine.proofs.code_cells.rebase.Goals as goal

pub loop-i-preserved : goal.loop-i-preserved
loop-i-preserved c =
    let v = c.loop-i.invariant in
    let i = c.loop-i.i in
    let inside : i < length c.loop-i.numbers = omega (arith, c.loop-i-test.true, v.long) in
    let here : get_or c.loop-i.numbers i 0 ≡ get_or c.args.numbers.now i 0 = v.left i (omega arith) in
    let fits : FitsSigned w64 c.args.base = search rules in
    let base : to_z w64 (of_z w64 c.args.base) ≡ c.args.base = to_z-of_z w64 c.args.base fits in
    let new : c.distance_where.result ≡ cond (bit_of c.args.set i) (rebased c.args.base (get_or c.args.numbers.now i 0)) (get_or c.args.numbers.now i 0) = rw (c.has_bit.ensures, here, base) at c.distance_where.ensures in
    record {
      done = below_more _ _
          (λ k low. let ne : k ≢ i = omega (arith, low) in rw get_or-set_other (v.done k low))
          (rw (get_or-set_same, base) new);
      left = λ k high. let ne : k ≢ i = omega (arith, high) in rw get_or-set_other (v.left k (omega (arith, high)));
      long = search rules;
    }
