use Rattle.std.proofs.Common.{arith, length, sym, ◌+◌, ◌<◌, ◌≤◌, ◌∙◌}
use Rattle.std.proofs.lemmas.List.{get_or_default}
use Rattle.bw_code.proofs.Lists.{part_is}
use Rattle.bw_horizontal.specs.Words.{codes_of}
use Rattle.bw_horizontal.proofs.Views.{code_below, code_is, count_is, row_there}
use Rattle.bw_horizontal.proofs.column.HorizontalColumnCodeColumn.read.Goals as goal

pub read_codes-requires-clause-there : goal.read_codes-requires-clause-there
read_codes-requires-clause-there c j h =
    let inside = c.self.inside in
    let low : j < inside.len = grind (arith, count_is) in
    rw c.deref.ensures.value (row_there inside.width inside.len inside.words.items c.self.invariant j low)

pub returns-clause-codes : goal.returns-clause-codes
returns-clause-codes c =
    let inside = c.self.inside in
    let codes = codes_of inside.width inside.len inside.words.items in
    let out = c.read_codes.new.out in
    let read = rw c.deref.ensures.value at c.read_codes.ensures in
    let inside_fits : c.args.at + length out ≤ length codes = grind (arith, count_is) in
    rw (← c.self.view_is, ← c.read_codes.auto.out) (part_is codes out c.args.at 0 inside_fits (λ i h. read i (omega (arith, h)) ∙ sym (code_is inside.width inside.len inside.words.items c.self.invariant (c.args.at + i))))

pub returns-clause-fit : goal.returns-clause-fit
returns-clause-fit c i d h =
    let inside = c.self.inside in
    let read = rw c.deref.ensures.value at c.read_codes.ensures in
    rw (get_or_default c.read_codes.new.out i d 0 h, read i (omega (arith, h)), ← c.self.view_is) (code_below inside.width inside.words.items c.self.invariant.narrow c.self.invariant.segments.stored (c.args.at + i))
