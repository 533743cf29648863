use Rattle.std.proofs.Common.{ap, arith, sym, ◌<◌, ◌∙◌}
use Rattle.bw_code.specs.Columns.{code_at}
use Rattle.bw_horizontal.proofs.Views.{code_below, code_is, count_is, row_there}
use Rattle.bw_horizontal.proofs.column.HorizontalColumnCodeColumn.get.Goals as goal

pub code-requires : goal.code-requires
code-requires c =
    let inside = c.self.inside in
    let low : c.args.i < inside.len = grind (arith, count_is) in
    rw (c.of.ensures.width, c.of.ensures.row, c.deref.ensures.value) (row_there inside.width inside.len inside.words.items c.self.invariant c.args.i low)

pub returns-clause-code : goal.returns-clause-code
returns-clause-code c =
    let inside = c.self.inside in
    let found = rw (c.of.ensures.width, c.of.ensures.row, c.deref.ensures.value) at c.code.ensures in
    found ∙ sym (code_is inside.width inside.len inside.words.items c.self.invariant c.args.i) ∙ ap (λ view. code_at view c.args.i) c.self.view_is

pub returns-clause-fits : goal.returns-clause-fits
returns-clause-fits c =
    let inside = c.self.inside in
    let found = rw (c.of.ensures.width, c.of.ensures.row, c.deref.ensures.value) at c.code.ensures in
    rw (found, ← c.self.view_is) (code_below inside.width inside.words.items c.self.invariant.narrow c.self.invariant.segments.stored c.args.i)
