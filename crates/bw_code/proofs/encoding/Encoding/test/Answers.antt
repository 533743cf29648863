use Rattle.std.proofs.Common.{◌≡◌, length, arith}
use Rattle.std.proofs.lemmas.Int.{ints, to_z-of_z}
use Rattle.bw_code.specs.Encodings.{below, offset_test, rank_test, upto}
use Rattle.bw_code.specs.declared.encoding.Encoding.TheVariants as by
use Rattle.bw_code.proofs.Answering.{tested}
use Rattle.bw_code.proofs.encoding.Encoding.test.Goals as goal

pub returns-in-Offset : goal.returns-in-Offset
returns-in-Offset c =
    let is : c.test.result ≡ offset_test c.in-Offset.offset c.args.op c.args.constant = search (arith, ints, to_z-of_z, c.test.ensures) in
    let t = tested (by.Offset c.in-Offset.offset) tt c.args.op c.args.constant _ is in
    rw c.in-Offset.is record { is = t.is; fits = t.fits; meets = t.meets }

pub returns-in-Dictionary : goal.returns-in-Dictionary
returns-in-Dictionary c =
    let entries = c.in-Dictionary.dictionary in
    let is : c.test-in-Dictionary.result ≡ rank_test c.args.op (below entries c.args.constant) (upto entries c.args.constant) (length entries) = search (arith, ints, to_z-of_z, c.test-in-Dictionary.ensures.is) in
    let t = tested (by.Dictionary entries) c.test-in-Dictionary.ensures.entries c.args.op c.args.constant _ is in
    rw c.in-Dictionary.is record { is = t.is; fits = t.fits; meets = t.meets }
