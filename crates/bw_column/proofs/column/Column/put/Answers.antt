use Rattle.std.proofs.Common.{arith, ap, set, subst, sym, ◌<◌, ◌∙◌, ◌≡◌}
use Rattle.bw_code.specs.Columns.{count}
use Rattle.bw_column.specs.Codes.{AreRowCodes, IsCoded, code_for}
use Rattle.bw_column.specs.Storing.{layout_of, list_of}
use Rattle.bw_column.specs.Values.{IsNullOrHeld}
use Rattle.bw_column.proofs.Changed.{code_fits, rows_put, values_put}
use Rattle.bw_code.proofs.Lists.{made_len}
use Rattle.bw_column.proofs.column.Column.put.Goals as goal

pub set-requires-clause-fits : goal.set-requires-clause-fits
set-requires-clause-fits c =
    let held : IsCoded c.self.inside.encoding c.args.value = rw (← c.self.view_is) at c.requires.coded in
    let is : c.args.code ≡ code_for c.self.inside.encoding c.args.value = rw (← c.self.view_is) at c.requires.code in
    rw (is, c.self.invariant.width) (code_fits c.self.inside.encoding c.self.invariant.sound c.args.value held)

pub invariant_of-self : goal.invariant_of-self
invariant_of-self c =
    let low : c.args.i < count (list_of c.self.inside.codes) = grind (arith, made_len) in
    let held : IsCoded c.self.inside.encoding c.args.value = rw (← c.self.view_is) at c.requires.coded in
    let is : c.args.code ≡ code_for c.self.inside.encoding c.args.value = rw (← c.self.view_is) at c.requires.code in
    let kept : IsNullOrHeld (layout_of c.self.inside.codes) c.args.value = rw (← c.self.view_is) at c.requires.held in
    subst (λ l. AreRowCodes l c.self.inside.encoding (list_of c.set.new.self) c.set-2.new.self) (sym c.set.ensures.layout) (rows_put c.self.inside.encoding (list_of c.self.inside.codes) (list_of c.set.new.self) c.self.inside.nonnull c.set-2.new.self c.self.invariant c.set.ensures.shape.width
    c.args.value held kept c.args.i low (c.set.ensures.codes ∙ ap (set (list_of c.self.inside.codes).codes c.args.i) is) (rw c.is_some.ensures at c.set-2.ensures.rows))

pub returns-clause-values : goal.returns-clause-values
returns-clause-values c =
    let low : c.args.i < count (list_of c.self.inside.codes) = grind (arith, made_len) in
    let held : IsCoded c.self.inside.encoding c.args.value = rw (← c.self.view_is) at c.requires.coded in
    let is : c.args.code ≡ code_for c.self.inside.encoding c.args.value = rw (← c.self.view_is) at c.requires.code in
    let kept : IsNullOrHeld (layout_of c.self.inside.codes) c.args.value = rw (← c.self.view_is) at c.requires.held in
    rw (← c.self.view_is) (values_put c.self.inside.encoding (list_of c.self.inside.codes) (list_of c.set.new.self) c.self.inside.nonnull c.set-2.new.self c.self.invariant c.set.ensures.shape.width
    c.args.value held kept c.args.i low (c.set.ensures.codes ∙ ap (set (list_of c.self.inside.codes).codes c.args.i) is) (rw c.is_some.ensures at c.set-2.ensures.rows))
