use Rattle.std.proofs.Common.{◌≡◌, length, arith}
use Rattle.std.proofs.lemmas.Int.{ints, to_z-of_z}
use Rattle.bw_code.specs.Encodings.{below, offset_range, rank_range, upto}
use Rattle.bw_code.specs.declared.encoding.Encoding.TheVariants as by
use Rattle.bw_code.proofs.Answering.{ranged}
use Rattle.bw_code.proofs.encoding.Encoding.range.Goals as goal

pub returns-in-Offset : goal.returns-in-Offset
returns-in-Offset c =
    let is : c.range.result ≡ offset_range c.in-Offset.offset c.args.low c.args.high = search (arith, ints, to_z-of_z, c.range.ensures) in
    let t = ranged (by.Offset c.in-Offset.offset) tt c.args.low c.args.high _ is in
    rw c.in-Offset.is record { is = t.is; fits = t.fits; meets = t.meets }

pub returns-in-Dictionary : goal.returns-in-Dictionary
returns-in-Dictionary c =
    let entries = c.in-Dictionary.dictionary in
    let is : c.range-in-Dictionary.result ≡ rank_range (below entries c.args.low) (upto entries c.args.high) (length entries) = search (arith, ints, to_z-of_z, c.range-in-Dictionary.ensures.is) in
    let t = ranged (by.Dictionary entries) c.range-in-Dictionary.ensures.entries c.args.low c.args.high _ is in
    rw c.in-Dictionary.is record { is = t.is; fits = t.fits; meets = t.meets }
