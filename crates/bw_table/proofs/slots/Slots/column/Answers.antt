use Rattle.std.proofs.Common.{All, arith, ap, length, subst, sym, ◌<◌}
use Rattle.std.proofs.lemmas.List.{length-map}
use Rattle.bw_column.specs.Columns.{ColumnView}
use Rattle.bw_column.specs.Values.{IsNullOrHeld}
use Rattle.bw_table.specs.Slots.{SlotsView}
use Rattle.bw_table.proofs.Across.{column_values}
use Rattle.bw_table.proofs.slots.Slots.column.Goals as goal

pub returns-clause-values : goal.returns-clause-values
returns-clause-values c =
    let columns = c.self.inside.columns.items in
    let low : c.args.k < length columns = omega (arith, c.requires, ap (λ (s : SlotsView). length s.encodings) c.self.view_is, length-map columns (λ (x : ColumnView). x.encoding)) in
    rw (← c.self.view_is) (column_values columns c.self.inside.live c.args.k c.index.result.now c.self.invariant low c.index.ensures)

pub returns-clause-held : goal.returns-clause-held
returns-clause-held c =
    let columns = c.self.inside.columns.items in
    let low : c.args.k < length columns = omega (arith, c.requires, ap (λ (s : SlotsView). length s.encodings) c.self.view_is, length-map columns (λ (x : ColumnView). x.encoding)) in
    subst (λ (x : ColumnView). All (IsNullOrHeld x.layout) x.values) (sym c.index.ensures) (c.self.invariant.held c.args.k c.index.result.now low)
