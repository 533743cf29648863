use Rattle.std.proofs.Common.{ap, arith, get_or, subst, sym, ◌*◌, ◌+◌, ◌-◌, ◌/◌, ◌<◌, ◌≡◌, ◌∙◌}
use Rattle.bw_mask.specs.Masks.{bit_of}
use Rattle.bw_code.specs.Columns.{CodeList}
use Rattle.bw_vertical.specs.Storage.{HasSegment, codes_of, is_set, lists}
use Rattle.bw_vertical.proofs.Holding.{codes_bit, codes_len, has_segment}
use Rattle.bw_vertical.proofs.Settings.{word_row}
use Rattle.bw_vertical.proofs.column.VerticalColumn.read_words.Goals as goal

pub take_planes-requires-clause-there : goal.take_planes-requires-clause-there
take_planes-requires-clause-there c =
    let inside : 64 * c.args.w < c.self.inside.len = grind (arith, codes_len) in
    subst (λ gs. HasSegment c.self.inside.width (lists gs) (c.args.w / 4)) (sym c.deref.ensures.value) (has_segment c.self.inside.width c.self.inside.len (lists c.self.inside.groups.items) c.self.invariant (c.args.w / 4) (omega (arith, inside)))

pub returns : goal.returns
returns c b r h l =
    let k = c.self.inside.width in
    let n = c.self.inside.len in
    let gs = lists c.self.inside.groups.items in
    let w = c.args.w in
    let wide : k ≡ c.args.self.now.width = ap (λ (v : CodeList). v.width) c.self.view_is in
    let low : b < k = omega (arith, h, wide) in
    let i = k - 1 - b in
    let back : k - 1 - i ≡ b = omega (arith, low) in
    let plane : i < k = omega (arith, low) in
    rw (← c.self.view_is) (
    ap (λ q. bit_of (get_or c.take_planes.new.words q 0) r) (sym back) ∙ ap (λ x. bit_of x r) (c.take_planes.ensures.planes i plane)
    ∙ sym (word_row k i w r (lists c.deref.result.now) l) ∙ ap (λ vs. is_set k (lists vs) i (64 * w + r)) c.deref.ensures.value
    ∙ sym (codes_bit k n gs c.self.invariant i (64 * w + r) plane) ∙ ap (bit_of (get_or (codes_of k gs n) (64 * w + r) 0)) back)
