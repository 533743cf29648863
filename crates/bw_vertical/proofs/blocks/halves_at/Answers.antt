use Rattle.std.proofs.Common.{◌∙◌}
use Rattle.bw_code.proofs.LaneLemmas.{zeros}
use Rattle.bw_vertical.specs.Storage.{lists}
use Rattle.bw_vertical.proofs.Halves.{wide_code}
use Rattle.bw_vertical.proofs.blocks.halves_at.Goals as goal

pub halves_of_words-requires-clause-rest : goal.halves_of_words-requires-clause-rest
halves_of_words-requires-clause-rest c b h l = c.take_planes.ensures.rest b h ∙ zeros 64 b

pub returns : goal.returns
returns c r h =
    wide_code c.args.k c.args.w r (lists c.args.groups.now) c.take_planes.new.words h c.take_planes.ensures.planes (λ b l. c.take_planes.ensures.rest b l ∙ zeros 64 b) c.requires.narrow _ _ (c.halves_of_words.ensures.low_fit r h) (c.halves_of_words.ensures.high_fit r h)
    (λ b l. c.halves_of_words.ensures.low r b h l)
    (λ b l. c.halves_of_words.ensures.high r b h l)
