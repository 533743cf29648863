use Rattle.std.proofs.Common.{arith, ◌<◌}
use Rattle.bw_code.proofs.Lists.{made_at}
use Rattle.bw_horizontal.specs.Words.{code_in}
use Rattle.bw_horizontal.proofs.Views.{code_below, count_is}
use Rattle.bw_horizontal.proofs.column.HorizontalColumnCodeColumn.width.Goals as goal

pub returns-clause-fit : goal.returns-clause-fit
returns-clause-fit c = rw (← c.self.view_is) (λ i d h.
    let inside = c.self.inside in
    let words = inside.words.items in
    let low : i < inside.len = omega (arith, h, count_is inside.width inside.len words) in
    rw (made_at inside.len (code_in inside.width words) i d low) (code_below inside.width words c.self.invariant.narrow c.self.invariant.segments.stored i))
