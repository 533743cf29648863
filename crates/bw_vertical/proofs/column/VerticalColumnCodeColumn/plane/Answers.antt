use Rattle.std.proofs.Common.{ap, arith, get_or, sym, ◌-◌, ◌<◌, ◌≡◌, ◌∙◌}
use Rattle.bw_mask.specs.Masks.{bit_of}
use Rattle.bw_code.specs.Columns.{CodeList}
use Rattle.bw_vertical.specs.Storage.{codes_of, is_set, lists}
use Rattle.bw_vertical.proofs.Holding.{codes_bit}
use Rattle.bw_vertical.proofs.column.VerticalColumnCodeColumn.plane.Goals as goal

pub returns-clause-rows : goal.returns-clause-rows
returns-clause-rows c =
    let k = c.self.inside.width in
    let n = c.self.inside.len in
    let i = c.args.i in
    let gs = lists c.self.inside.groups.items in
    let wide : k ≡ c.args.self.now.width = ap (λ (v : CodeList). v.width) c.self.view_is in
    let low : i < k = rw wide c.requires.bit in
    let back : k - 1 - (k - 1 - i) ≡ i = omega arith in
    rw (← c.self.view_is) (λ r.
    c.put_plane.ensures.rows r
    ∙ ap (λ vs. is_set k (lists vs) (k - 1 - i) r) c.deref.ensures.value
    ∙ sym (codes_bit k n gs c.self.invariant (k - 1 - i) r (omega (arith, low)))
    ∙ ap (bit_of (get_or (codes_of k gs n) r 0)) back)
