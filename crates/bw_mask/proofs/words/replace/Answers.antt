use Rattle.std.proofs.Common.{arith, length, ◌<◌}
use Rattle.std.proofs.lemmas.List.{get_or_read}
use Rattle.bw_mask.proofs.Places.{replaced_chosen, replaced_other}
use Rattle.bw_mask.proofs.words.replace.Goals as goal

pub returns-then-k-len-clause-chosen : goal.returns-then-k-len-clause-chosen
returns-then-k-len-clause-chosen c i e _ =
    let within : c.args.k < length c.args.words.now.items = omega arith in
    replaced_chosen c.args.words.now.items c.args.k _ c.args.word c.args.chosen within c.ranges.chosen.fits (get_or_read _ _ _ within c.index.ensures 0) i e

pub returns-then-k-len-clause-other : goal.returns-then-k-len-clause-other
returns-then-k-len-clause-other c =
    let within : c.args.k < length c.args.words.now.items = omega arith in
    replaced_other c.args.words.now.items c.args.k _ c.args.word c.args.chosen within c.ranges.chosen.fits (get_or_read _ _ _ within c.index.ensures 0)
