use Rattle.std.proofs.Common.{ap, ltb, sym, ◌%◌, ◌&&◌, ◌*◌, ◌+◌, ◌∙◌}
use Rattle.bw_mask.specs.Masks.{bit_of}
use Rattle.bw_lane.specs.Sections.{sections_in}
use Rattle.bw_horizontal.specs.Words.{row_of_bit}
use Rattle.bw_horizontal.proofs.Views.{bit_is, code_is, count_is}
use Rattle.bw_horizontal.proofs.column.HorizontalColumn.words.Goals as goal

pub returns-clause-count : goal.returns-clause-count
returns-clause-count c =
    let inside = c.self.inside in
    rw (c.deref.ensures.value, ← c.self.view_is, count_is inside.width inside.len inside.words.items) c.self.invariant.segments.count

pub returns-clause-bits : goal.returns-clause-bits
returns-clause-bits c w p =
    let inside = c.self.inside in
    let k = inside.width in
    rw (c.deref.ensures.value, ← c.self.view_is) (bit_is k inside.words.items c.self.invariant.segments.stored w p
    ∙ ap (λ code. ltb p (sections_in k * (k + 1)) && bit_of code (p % (k + 1))) (sym (code_is k inside.len inside.words.items c.self.invariant (row_of_bit k w p))))
