use Rattle.std.proofs.Common.{ap, arith, subst, sym, ◌/◌, ◌<◌, ◌∙◌}
use Rattle.bw_vertical.specs.Storage.{HasSegment, code_of, lists}
use Rattle.bw_vertical.proofs.Holding.{code_lt, codes_at, codes_len, has_segment}
use Rattle.bw_vertical.proofs.column.VerticalColumnCodeColumn.get.Goals as goal

pub code_at-requires-clause-small : goal.code_at-requires-clause-small
code_at-requires-clause-small c =
    let low : c.args.i < c.self.inside.len = grind (arith, codes_len) in
    omega (arith, low, c.self.invariant.few)

pub code_at-requires-clause-there : goal.code_at-requires-clause-there
code_at-requires-clause-there c =
    let low : c.args.i < c.self.inside.len = grind (arith, codes_len) in
    subst (λ gs. HasSegment c.self.inside.width (lists gs) (c.args.i / 256)) (sym c.deref.ensures.value) (has_segment c.self.inside.width c.self.inside.len (lists c.self.inside.groups.items) c.self.invariant (c.args.i / 256) (omega (arith, low)))

pub returns-clause-code : goal.returns-clause-code
returns-clause-code c =
    let k = c.self.inside.width in
    let n = c.self.inside.len in
    rw (← c.self.view_is) (
    c.code_at.ensures ∙ ap (λ gs. code_of k (lists gs) c.args.i) c.deref.ensures.value
    ∙ sym (codes_at k n (lists c.self.inside.groups.items) c.self.invariant c.args.i))

pub returns-clause-fits : goal.returns-clause-fits
returns-clause-fits c = rw (← c.self.view_is, c.code_at.ensures) (code_lt c.self.inside.width (lists c.deref.result.now) c.args.i)
