use Rattle.std.proofs.Common.{◌≡◌, ◌<◌, sym, refl, get_or, length, pos, rules, arith, to_z, of_z, w64, FitsSigned, below_more}
use Rattle.std.specs.List.{Contains}
use Rattle.std.proofs.lemmas.Int.{to_z-of_z}
use Rattle.bw_code.specs.Encodings.{entry_code}
use Rattle.bw_code.proofs.Bulk.{uncoded, all_coded, codes_more}
use Rattle.bw_code.proofs.dictionary.Dictionary.encode_all.Goals as goal

pub returns-in_default-clause-all : goal.returns-in_default-clause-all
returns-in_default-clause-all c =
    let x = get_or c.args.values.now c.loop-i.i (pos 0) in
    let fits : FitsSigned w64 x = search rules in
    let v : to_z w64 (of_z w64 x) ≡ x = to_z-of_z w64 x fits in
    uncoded c.args.self.now c.args.values.now c.loop-i.i c.encode.result c.loop-i-test.true c.in_default.is (rw v at c.encode.ensures.coded)

pub loop-i-preserved : goal.loop-i-preserved
loop-i-preserved c =
    let entries = c.args.self.now in
    let xs = c.args.values.now in
    let x = get_or xs c.loop-i.i (pos 0) in
    let fits : FitsSigned w64 x = search rules in
    let v : to_z w64 (of_z w64 x) ≡ x = to_z-of_z w64 x fits in
    let h = rw v at c.in-Some.ensures in
    let room : c.loop-i.i < length c.loop-i.codes = omega arith in
    record {
      held = below_more (λ k. Contains entries (get_or xs k (pos 0))) c.loop-i.i c.loop-i.invariant.held (h.coded.0 refl);
      codes = codes_more (entry_code entries) xs c.loop-i.codes c.loop-i.i c.in-Some.code room c.loop-i.invariant.codes (sym h.is);
    }

pub returns-clause-all : goal.returns-clause-all
returns-clause-all c = all_coded c.args.self.now c.args.values.now (λ k l. c.loop-i.invariant.held k (omega arith))
