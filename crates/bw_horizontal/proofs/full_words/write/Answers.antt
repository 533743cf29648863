use Rattle.std.proofs.Common.{arith, length, ◌+◌, ◌-◌}
use Rattle.bw_code.proofs.Runs.{fit_at}
use Rattle.bw_horizontal.proofs.FullWords.{copied_behind, copied_here, copied_stored}
use Rattle.bw_horizontal.proofs.full_words.write.Goals as goal

pub returns-clause-stored : goal.returns-clause-stored
returns-clause-stored c =
    let at = c.args.at in
    let codes = c.args.codes.now in
    let words = c.args.words.now in
    let n = at + length codes - at in
    rw c.copy_from_slice.ensures.after (copied_stored at n words codes c.requires.stored (omega (arith, c.requires.there)) (omega arith) (fit_at 32 codes c.requires.fit))

pub returns-clause-put : goal.returns-clause-put
returns-clause-put c i h =
    let at = c.args.at in
    let codes = c.args.codes.now in
    let words = c.args.words.now in
    let n = at + length codes - at in
    rw c.copy_from_slice.ensures.after (copied_here at n words codes c.requires.stored (omega (arith, c.requires.there)) (omega arith) (fit_at 32 codes c.requires.fit) i h)

pub returns-clause-other : goal.returns-clause-other
returns-clause-other c j outside =
    let at = c.args.at in
    let codes = c.args.codes.now in
    let words = c.args.words.now in
    let n = at + length codes - at in
    rw c.copy_from_slice.ensures.after (copied_behind at n words codes c.requires.stored (omega (arith, c.requires.there)) (omega arith) (fit_at 32 codes c.requires.fit) j outside)
