use Rattle.std.proofs.Common.{ap, arith, length, sym, ◌&&◌, ◌≡◌, ◌∙◌}
use Rattle.bw_mask.specs.Masks.{len, row_at}
use Rattle.bw_code.specs.Meters.{raised}
use Rattle.bw_code.specs.Tests.{meets}
use Rattle.bw_horizontal.specs.Words.{code_in, codes_of}
use Rattle.bw_horizontal.proofs.Costs.{units_are}
use Rattle.bw_horizontal.proofs.Views.{code_is, count_is}
use Rattle.bw_horizontal.proofs.column.HorizontalColumnCodeColumn.scan.Goals as goal

pub returns-clause-rows : goal.returns-clause-rows
returns-clause-rows c r =
    let inside = c.self.inside in
    let found = rw (c.new-source.ensures.words, c.deref.ensures.value) at c.scan_from.ensures.rows in
    rw (← c.self.view_is) (found r ∙ ap (λ code. row_at c.args.need.now r && meets c.args.test code) (sym (code_is inside.width inside.len inside.words.items c.self.invariant r)))

pub returns-clause-units : goal.returns-clause-units
returns-clause-units c =
    let inside = c.self.inside in
    let need = c.args.need.now in
    let count : length (codes_of inside.width inside.len inside.words.items) ≡ len need = grind (arith, count_is) in
    let units = units_are inside.width (len need) c.args.test (row_at need) (codes_of inside.width inside.len inside.words.items) (code_in inside.width c.new-source.result.words.now) count in
    rw (← c.self.view_is, units) (c.add.ensures ∙ ap (raised c.args.meter.now) (omega (arith, c.reads.ensures, c.scan_from.ensures.reads, c.new-source.ensures.none)))
