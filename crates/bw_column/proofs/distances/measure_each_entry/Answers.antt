use Rattle.std.proofs.Common.{FitsSigned, Some, arith, below_more, get_or, get_or-set_other, get_or-set_same, length, of_z, pos, rules, to_z, w64, ◌<◌, ◌≡◌, ◌≢◌}
use Rattle.std.proofs.lemmas.Int.{ints, to_z-of_z}
use Rattle.bw_cells.specs.Distances.{distance_from}
use Rattle.bw_column.proofs.distances.measure_each_entry.Goals as goal

pub loop-i-preserved : goal.loop-i-preserved
loop-i-preserved c =
    let v = c.loop-i.invariant in
    let i = c.loop-i.i in
    let entries = c.args.entries.now in
    let inside : i < length c.loop-i.codes = omega (arith, c.loop-i-test.true, v.long) in
    let here : get_or c.loop-i.codes i 0 ≡ get_or c.args.codes.now i 0 = v.left i (omega arith) in
    let x = get_or entries (get_or c.loop-i.codes i 0) (pos 0) in
    let back : to_z w64 (of_z w64 x) ≡ x = search (arith, ints, to_z-of_z) in
    let fits : FitsSigned w64 c.args.base = search rules in
    let base : to_z w64 (of_z w64 c.args.base) ≡ c.args.base = to_z-of_z w64 c.args.base fits in
    let new : c.distance_of.result ≡ distance_from c.args.base (Some (get_or entries (get_or c.args.codes.now i 0) (pos 0))) = rw (back, here, base) at c.distance_of.ensures in
    record {
      done = below_more _ _
          (λ k low. let ne : k ≢ i = omega (arith, low) in rw get_or-set_other (v.done k low))
          (rw (get_or-set_same, base) new);
      left = λ k high. let ne : k ≢ i = omega (arith, high) in rw get_or-set_other (v.left k (omega (arith, high)));
      long = search rules;
    }
