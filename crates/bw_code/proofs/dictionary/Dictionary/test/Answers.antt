use Rattle.std.proofs.Common.{◌≡◌, length, arith}
use Rattle.std.proofs.lemmas.Int.{ints, to_z-of_z}
use Rattle.bw_code.specs.Encodings.{below, upto}
use Rattle.bw_code.proofs.dictionary.Dictionary.test.Goals as goal

pub returns-clause-is : goal.returns-clause-is
returns-clause-is c =
    let r : c.below.result ≡ below c.args.self.now c.args.constant = search (arith, ints, to_z-of_z, c.below.ensures) in
    let q : c.upto.result ≡ upto c.args.self.now c.args.constant = search (arith, ints, to_z-of_z, c.upto.ensures) in
    let n : c.len-count.result ≡ length c.args.self.now = rw (← c.self.view_is) (omega arith) in
    rw (← r, ← q, ← n) c.rank_test.ensures
