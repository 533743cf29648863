use Rattle.std.proofs.Common.{◌∙◌}
use Rattle.bw_code.proofs.LaneLemmas.{zeros}
use Rattle.bw_vertical.specs.Storage.{lists}
use Rattle.bw_vertical.proofs.Halves.{narrow_code}
use Rattle.bw_vertical.proofs.blocks.block_at.Goals as goal

pub returns : goal.returns
returns c r h =
    narrow_code c.args.k c.args.w r (lists c.args.groups.now) c.take_planes.new.words h c.take_planes.ensures.planes (λ b l. c.take_planes.ensures.rest b l ∙ zeros 32 b) c.requires.narrow _ (c.codes_of_words.ensures.fit r h) (λ b l. c.codes_of_words.ensures.bits r b h l)

pub codes_of_words-requires-clause-rest : goal.codes_of_words-requires-clause-rest
codes_of_words-requires-clause-rest c b h l = c.take_planes.ensures.rest b h ∙ zeros 32 b
