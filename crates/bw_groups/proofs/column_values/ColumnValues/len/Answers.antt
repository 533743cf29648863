use Rattle.std.proofs.Common.{ap, arith, length, sym, ◌∙◌}
use Rattle.bw_groups.proofs.Values.{values_length}
use Rattle.bw_groups.proofs.column_values.ColumnValues.len.Goals as goal

pub returns : goal.returns
returns c =
    let count = ap length (sym c.self.view_is) ∙ values_length c.self.inside.numbers.items c.self.inside.known.items c.self.invariant in
    omega (arith, count, c.len.ensures, c.self.inside.numbers.ok)
