use Rattle.std.proofs.Common.{◌≡◌, get_or, pos, rules, arith, to_z, of_z, w64, FitsSigned}
use Rattle.std.proofs.lemmas.Grind.{common_steps}
use Rattle.std.proofs.lemmas.Int.{to_z-of_z}
use Rattle.bw_code.specs.Encodings.{distance}
use Rattle.bw_code.proofs.Bulk.{still_held, still_missed, decided}
use Rattle.bw_code.proofs.offset.Offset.encode_all.Goals as goal

pub loop-i-preserved : goal.loop-i-preserved
loop-i-preserved c =
    let o = c.args.self in
    let x = get_or c.args.values.now c.loop-i.i (pos 0) in
    let fits_base : FitsSigned w64 o.base = search rules in
    let fits : FitsSigned w64 x = search rules in
    let b : to_z w64 (of_z w64 o.base) ≡ o.base = to_z-of_z w64 o.base fits_base in
    let v : to_z w64 (of_z w64 x) ≡ x = to_z-of_z w64 x fits in
    let far : c.abs_diff-code.result ≡ distance x o.base = rw (v, b) at c.abs_diff-code.ensures in
    rw (v, b, c.largest_code-largest.ensures, far) record {
      held = still_held o c.args.values.now c.loop-i.i c.loop-i.all c.loop-i.invariant.held;
      missed = still_missed o c.args.values.now c.loop-i.i c.loop-i.all c.loop-i-test.true c.loop-i.invariant.missed;
      codes = grind (arith, common_steps, c.loop-i.invariant.codes);
    }

pub returns-clause-all : goal.returns-clause-all
returns-clause-all c = decided c.args.self c.args.values.now c.loop-i.all (λ h k l. c.loop-i.invariant.held h k (omega arith)) c.loop-i.invariant.missed
