use Rattle.std.proofs.Common.{length, subst, ℕ, ◌+◌, ◌<◌}
use Rattle.bw_horizontal.specs.Words.{word_of}
use Rattle.bw_horizontal.proofs.FullWords.{rows_there}
use Rattle.bw_horizontal.proofs.storage.put_codes.Goals as goal

pub write-requires-clause-there : goal.write-requires-clause-there
write-requires-clause-there c =
    let n = c.args.at + length c.args.codes.now in
    let size = length c.args.words.now in
    rows_there n size (subst (λ k. (j : ℕ) → j < n → word_of k j < size) c.if-width-eq-FULL.true c.requires.there)
