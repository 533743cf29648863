use Rattle.std.proofs.Common.{[], ap, arith, get_or, length, sym, ◌*◌, ◌+◌, ◌<◌, ◌≡◌, ◌∙◌}
use Rattle.bw_code.specs.Columns.{CodeList}
use Rattle.bw_mask.specs.Masks.{row_in}
use Rattle.bw_code.specs.Units.{segments_of}
use Rattle.bw_vertical.specs.Storage.{groups_of, lists, planes_in}
use Rattle.bw_vertical.proofs.Holding.{codes_bit, codes_len, group_row, lists_len}
use Rattle.bw_vertical.proofs.Placing.{group_is}
use Rattle.bw_vertical.proofs.column.VerticalColumn.group.Goals as goal

pub returns-clause-count : goal.returns-clause-count
returns-clause-count c =
    let k = c.self.inside.width in
    let n = c.self.inside.len in
    let g = c.args.g in
    let vs = c.self.inside.groups.items in
    let wide : k ≡ c.args.self.now.width = ap (λ (v : CodeList). v.width) c.self.view_is in
    let low : g < groups_of k = rw wide c.requires in
    let within : g < length vs = omega (arith, low, c.self.invariant.count, lists_len vs) in
    rw (← c.self.view_is) (
    ap length (c.deref.ensures.value ∙ sym (group_is vs g c.index.result.now within c.index.ensures))
    ∙ c.self.invariant.sizes g (omega (arith, low))
    ∙ ap (λ m. segments_of 256 m * planes_in k g) (sym (codes_len k n (lists vs))))

pub returns-clause-rows : goal.returns-clause-rows
returns-clause-rows c =
    let k = c.self.inside.width in
    let n = c.self.inside.len in
    let g = c.args.g in
    let vs = c.self.inside.groups.items in
    let wide : k ≡ c.args.self.now.width = ap (λ (v : CodeList). v.width) c.self.view_is in
    let low : g < groups_of k = rw wide c.requires in
    let within : g < length vs = omega (arith, low, c.self.invariant.count, lists_len vs) in
    rw (← c.self.view_is) (λ q i r l h.
    ap (λ xs. row_in (get_or xs (q * planes_in k g + i) []) r) (c.deref.ensures.value ∙ sym (group_is vs g c.index.result.now within c.index.ensures))
    ∙ group_row k q g i r (lists vs) l h
    ∙ sym (codes_bit k n (lists vs) c.self.invariant (4 * g + i) (256 * q + r) (omega (arith, l, low))))
