use Rattle.bw_mask.proofs.Places.{bits_read}
use Rattle.bw_mask.proofs.words.bits.Goals as goal

pub returns : goal.returns
returns c = bits_read c.args.words.now c.args.at c.args.n _ _ _ c.word_at.result c.word_at-2.result c.requires c.word_at.ensures c.word_at-2.ensures c.down-low.ensures.moved c.down-low.ensures.none c.up-high.ensures.moved c.up-high.ensures.none c.low_bits.ensures
