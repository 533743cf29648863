use Rattle.std.proofs.Common.{◌≡◌, Some, ◌∙◌, to_z, of_z, w64, FitsSigned, rules}
use Rattle.std.proofs.lemmas.Int.{to_z-of_z}
use Rattle.bw_code.specs.Encodings.{code_of}
use Rattle.bw_code.specs.declared.encoding.Encoding.TheVariants as by
use Rattle.bw_code.proofs.Codes.{code_back}
use Rattle.bw_code.proofs.encoding.Encoding.decode.Goals as goal

pub returns-in-Dictionary-clause-again : goal.returns-in-Dictionary-clause-again
returns-in-Dictionary-clause-again c =
    let r = c.decode-in-Dictionary.result in
    let fits : FitsSigned w64 r = search rules in
    let e : to_z w64 (of_z w64 r) ≡ r = to_z-of_z w64 r fits in
    let h : code_of (by.Dictionary c.in-Dictionary.dictionary) c.requires.value ≡ Some c.args.code = rw c.in-Dictionary.is at c.requires.is in
    let same : r ≡ c.requires.value = c.decode-in-Dictionary.ensures.is ∙ code_back (by.Dictionary c.in-Dictionary.dictionary) c.decode-in-Dictionary.ensures.entries c.requires.value c.args.code h in
    rw (e, same) c.requires.is
