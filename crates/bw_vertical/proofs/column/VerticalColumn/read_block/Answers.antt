use Rattle.std.proofs.Common.{[], ap, arith, get_or, sym, ◌*◌, ◌+◌, ◌-◌, ◌/◌, ◌<◌, ◌≡◌, ◌∙◌}
use Rattle.bw_mask.specs.Masks.{bit_of, row_in}
use Rattle.bw_code.specs.Columns.{CodeList}
use Rattle.bw_vertical.specs.Storage.{codes_of, lists, word_of}
use Rattle.bw_vertical.proofs.BlockRows.{block_row}
use Rattle.bw_vertical.proofs.Holding.{codes_bit}
use Rattle.bw_vertical.proofs.column.VerticalColumn.read_block.Goals as goal

pub returns : goal.returns
returns c b r h l =
    let k = c.self.inside.width in
    let n = c.self.inside.len in
    let gs = lists c.self.inside.groups.items in
    let at = c.args.at in
    let block = c.take_block.new.block in
    let wide : k ≡ c.args.self.now.width = ap (λ (v : CodeList). v.width) c.self.view_is in
    let low : b < k = omega (arith, h, wide) in
    let i = k - 1 - b in
    let back : k - 1 - i ≡ b = omega (arith, low) in
    let plane : i < k = omega (arith, low) in
    let same : word_of k gs i (4 * (at / 256) + r / 64) ≡ get_or (get_or block (k - 1 - i) []) (r / 64) 0 =
    ap (λ vs. word_of k (lists vs) i (4 * (at / 256) + r / 64)) (sym c.deref.ensures.value) ∙ sym (c.take_block.ensures i (r / 64) plane (omega (arith, l))) in
    rw (← c.self.view_is) (
    ap (λ p. row_in (get_or block p []) r) (sym back) ∙ sym (block_row k i at r gs (get_or block (k - 1 - i) []) c.requires.first same)
    ∙ sym (codes_bit k n gs c.self.invariant i (at + r) plane) ∙ ap (bit_of (get_or (codes_of k gs n) (at + r) 0)) back)
