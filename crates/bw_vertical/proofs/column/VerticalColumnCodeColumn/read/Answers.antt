use Rattle.std.proofs.Common.{ap, arith, drop, get_or, length, subst, sym, take, ◌+◌, ◌/◌, ◌≡◌, ◌≤◌, ◌∙◌}
use Rattle.std.proofs.lemmas.List.{get_or_default}
use Rattle.bw_code.proofs.Lists.{part_is}
use Rattle.bw_vertical.specs.Storage.{HasSegment, code_of, codes_of, lists}
use Rattle.bw_vertical.proofs.Holding.{code_lt, codes_at, codes_len, has_segment}
use Rattle.bw_vertical.proofs.column.VerticalColumnCodeColumn.read.Goals as goal

pub read_codes-requires-clause-there : goal.read_codes-requires-clause-there
read_codes-requires-clause-there c j h =
    let inside : c.args.at + length c.args.out.now ≤ c.self.inside.len = grind (arith, codes_len) in
    subst (λ gs. HasSegment c.self.inside.width (lists gs) (j / 256)) (sym c.deref.ensures.value) (has_segment c.self.inside.width c.self.inside.len (lists c.self.inside.groups.items) c.self.invariant (j / 256) (omega (arith, h, inside)))

pub returns-clause-codes : goal.returns-clause-codes
returns-clause-codes c =
    let k = c.self.inside.width in
    let n = c.self.inside.len in
    let gs = lists c.self.inside.groups.items in
    let at = c.args.at in
    let out = c.read_codes.new.out in
    let inside : at + length c.args.out.now ≤ n = grind (arith, codes_len) in
    let whole = part_is (codes_of k gs n) out at 0 (omega (arith, inside, c.read_codes.ensures.long, codes_len k n gs)) (λ i h.
    c.read_codes.ensures.codes i (omega (arith, h, c.read_codes.ensures.long)) ∙ ap (λ vs. code_of k (lists vs) (at + i)) c.deref.ensures.value ∙ sym (codes_at k n gs c.self.invariant (at + i))) in
    rw (← c.self.view_is) (whole ∙ ap (λ m. take m (drop at (codes_of k gs n))) c.read_codes.ensures.long)

pub returns-clause-fit : goal.returns-clause-fit
returns-clause-fit c =
    let k = c.self.inside.width in
    let out = c.read_codes.new.out in
    rw (← c.self.view_is) (λ i d h.
    let code : get_or out i d ≡ code_of k (lists c.deref.result.now) (c.args.at + i) = get_or_default out i d 0 h ∙ c.read_codes.ensures.codes i (omega (arith, h, c.read_codes.ensures.long)) in
    rw code (code_lt k (lists c.deref.result.now) (c.args.at + i)))
