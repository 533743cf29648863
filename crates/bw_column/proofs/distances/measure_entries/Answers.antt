use Rattle.std.proofs.Common.{FitsSigned, Some, ap, arith, below_more, cond, get_or, get_or-set_other, get_or-set_same, length, of_z, pos, rules, to_z, true, w64, ◌<◌, ◌≡◌, ◌≢◌, ◌∙◌}
use Rattle.std.proofs.lemmas.Int.{ints, to_z-of_z}
use Rattle.bw_mask.specs.Masks.{bit_of}
use Rattle.bw_cells.specs.Distances.{distance_from}
use Rattle.bw_column.proofs.Full.{full}
use Rattle.bw_column.proofs.distances.measure_entries.Goals as goal

pub returns-then-set-eq18446744073709551615-clause-each : goal.returns-then-set-eq18446744073709551615-clause-each
returns-then-set-eq18446744073709551615-clause-each c k h =
    let set : bit_of c.args.set k ≡ true = ap (λ w. bit_of w k) c.if-set-eq18446744073709551615.true ∙ full k (omega (arith, h, c.requires.few)) in
    let fits : FitsSigned w64 c.args.base = search rules in
    let base : to_z w64 (of_z w64 c.args.base) ≡ c.args.base = to_z-of_z w64 c.args.base fits in
    rw set (rw base at (c.measure_each_entry.ensures.each k h))

pub loop-i-preserved : goal.loop-i-preserved
loop-i-preserved c =
    let v = c.loop-i.invariant in
    let i = c.loop-i.i in
    let entries = c.args.entries.now in
    let inside : i < length c.loop-i.codes = omega (arith, c.loop-i-test.true, v.long) in
    let here : get_or c.loop-i.codes i 0 ≡ get_or c.args.codes.now i 0 = v.left i (omega arith) in
    let x = get_or entries (get_or c.loop-i.codes i 0) (pos 0) in
    let back : to_z w64 (of_z w64 x) ≡ x = search (arith, ints, to_z-of_z) in
    let fits : FitsSigned w64 c.args.base = search rules in
    let base : to_z w64 (of_z w64 c.args.base) ≡ c.args.base = to_z-of_z w64 c.args.base fits in
    let new : c.distance_where.result ≡ cond (bit_of c.args.set i) (distance_from c.args.base (Some (get_or entries (get_or c.args.codes.now i 0) (pos 0)))) 0 = rw (c.has_bit.ensures, back, here, base) at c.distance_where.ensures in
    record {
      done = below_more _ _
          (λ k low. let ne : k ≢ i = omega (arith, low) in rw get_or-set_other (v.done k low))
          (rw (get_or-set_same, base) new);
      left = λ k high. let ne : k ≢ i = omega (arith, high) in rw get_or-set_other (v.left k (omega (arith, high)));
      long = search rules;
    }
