use Rattle.std.proofs.Common.{ap, sym, ◌∙◌}
use Rattle.bw_mask.specs.Masks.{bit_of}
use Rattle.bw_horizontal.proofs.Views.{code_is}
use Rattle.bw_horizontal.proofs.column.HorizontalColumnCodeColumn.plane.Goals as goal

pub returns-clause-rows : goal.returns-clause-rows
returns-clause-rows c r =
    let inside = c.self.inside in
    let found = rw c.deref.ensures.value at c.plane.ensures.rows in
    rw (← c.self.view_is) (found r ∙ ap (λ code. bit_of code c.args.i) (sym (code_is inside.width inside.len inside.words.items c.self.invariant r)))
