use Rattle.std.proofs.Common.{◌≡◌, arith}
use Rattle.std.proofs.lemmas.Int.{ints, to_z-of_z}
use Rattle.bw_code.specs.Encodings.{entry_code}
use Rattle.bw_code.specs.declared.encoding.Encoding.TheVariants as by
use Rattle.bw_code.proofs.Codes.{answer}
use Rattle.bw_code.proofs.encoding.Encoding.encode.Goals as goal

pub returns-in-Dictionary : goal.returns-in-Dictionary
returns-in-Dictionary c =
    let entries = c.in-Dictionary.dictionary in
    let is : c.encode-in-Dictionary.result ≡ entry_code entries c.args.x = search (arith, ints, to_z-of_z, c.encode-in-Dictionary.ensures.is) in
    let a = answer (by.Dictionary entries) c.encode-in-Dictionary.ensures.entries c.args.x _ is in
    rw c.in-Dictionary.is record { is = a.is; coded = a.coded; low = a.low; back = a.back }
