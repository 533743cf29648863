use Rattle.std.proofs.Common.{None, arith, length, ◌+◌, ◌<◌, ◌∙◌}
use Rattle.bw_mask.proofs.Bits.{bit_of_and}
use Rattle.bw_column.specs.Values.{IsNullOrStorable, value_at}
use Rattle.bw_column.proofs.Held.{all_storable}
use Rattle.bw_column.proofs.Rises.{rise_met}
use Rattle.bw_column.proofs.column.Column.compared_block.Goals as goal

pub returns : goal.returns
returns c i h l =
    let column = c.args.self.now in
    let other = c.args.other.now in
    let row = c.args.at + i in
    let left : IsNullOrStorable (value_at column.values row) = all_storable column.layout column.values c.len-held.ensures.held row None l in
    let inside : row < length other.values = omega (arith, l, c.requires.other) in
    let right : IsNullOrStorable (value_at other.values row) = all_storable other.layout other.values c.len-others_held.ensures.held row None inside in
    bit_of_and _ c.compared_rows.result i
    ∙ rw (bit_of_and c.rise_of_block-present.result c.rise_of_block-others.result i, c.rise_of_block-present.ensures.present i h l, c.rise_of_block-others.ensures.present i h inside, c.compared_rows.ensures i h, c.rise_of_block-present.ensures.rises i h l, c.rise_of_block-others.ensures.rises i h inside)
    (rise_met c.args.op (value_at column.values row) (value_at other.values row) left right)
