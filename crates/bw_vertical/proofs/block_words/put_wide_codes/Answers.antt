use Rattle.std.proofs.Common.{arith, ◌<◌, ◌∙◌}
use Rattle.bw_vertical.proofs.WordCodes.{wide_row}
use Rattle.bw_vertical.proofs.block_words.put_wide_codes.Goals as goal

pub returns-clause-codes : goal.returns-clause-codes
returns-clause-codes c r h =
    let row : r < 64 = omega (arith, h, c.requires.few) in
    c.join.ensures.same r h
    ∙ wide_row c.args.k c.args.words.now r c.requires.rest c.requires.narrow _ _ (c.halves_of_words.ensures.low_fit r row) (c.halves_of_words.ensures.high_fit r row)
    (λ b l. c.halves_of_words.ensures.low r b row l)
    (λ b l. c.halves_of_words.ensures.high r b row l)
