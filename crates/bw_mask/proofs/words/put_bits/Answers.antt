use Rattle.bw_mask.proofs.Places.{put_inside, put_outside}
use Rattle.bw_mask.specs.Masks.{row_in}
use Rattle.std.specs.Prelude.{vec_len}
use Rattle.bw_mask.proofs.words.put_bits.Goals as goal

pub returns-clause-inside : goal.returns-clause-inside
returns-clause-inside c =
    put_inside (row_in c.args.words.now.items) (row_in c.replace.new.words.items) (row_in c.replace-2.new.words.items) c.args.at c.args.n (vec_len c.args.words.now) c.low_bits-chosen.result c.args.word c.low_bits-chosen.ensures c.requires
    c.up.result c.up-2.result c.down.result c.down-2.result c.up.ensures.moved c.up.ensures.none c.up-2.ensures.moved c.down.ensures.moved c.down-2.ensures.moved c.replace.ensures.chosen c.replace.ensures.other (rw c.replace.ensures.len at c.replace-2.ensures.chosen) c.replace-2.ensures.other

pub returns-clause-outside : goal.returns-clause-outside
returns-clause-outside c =
    put_outside (row_in c.args.words.now.items) (row_in c.replace.new.words.items) (row_in c.replace-2.new.words.items) c.args.at c.args.n (vec_len c.args.words.now) c.low_bits-chosen.result c.args.word c.low_bits-chosen.ensures c.requires
    c.up.result c.up-2.result c.down.result c.down-2.result c.up.ensures.moved c.up.ensures.none c.up-2.ensures.moved c.down.ensures.moved c.down-2.ensures.moved c.replace.ensures.chosen c.replace.ensures.other (rw c.replace.ensures.len at c.replace-2.ensures.chosen) c.replace-2.ensures.other
