use Rattle.std.proofs.Common.{◌≡◌, ◌∙◌, ap, arith, length, List, map, subst}
use Rattle.std.proofs.lemmas.List.{length-map}
use Rattle.bw_cells.specs.Known.{known}
use Rattle.bw_code.specs.Fittings.{AreEnds}
use Rattle.bw_column.specs.Values as values
use Rattle.bw_table.specs.Slots.{Slot, live_slots}
use Rattle.bw_model.specs.Filing.{column_of}
use Rattle.bw_model.specs.Store.{Row, Value}
use Rattle.bw_engine.specs.Stores.{StoredTable, rows_in}
use Rattle.bw_engine.proofs.LiveValues.{live_known}
use Rattle.bw_engine.proofs.Saved.{whole_column}
use Rattle.bw_engine.proofs.live_ends.live_ends.Goals as goal

pub returns-then-row_count-len : goal.returns-then-row_count-len
returns-then-row_count-len c =
    let slots = c.stored-stored.result.now.slots in
    let rows : length (map (λ (slot : Slot). slot.row) slots) ≡ length slots = length-map slots (λ (slot : Slot). slot.row) in
    let down = length-map (map (λ (slot : Slot). slot.row) slots) (λ (row : Row). values.value_at row c.args.k) in
    let all : length (live_slots slots) ≡ length slots = omega (arith, c.row_count.ensures.count, c.len.ensures.count, c.if-row_count-len.true, ap length c.column-column.ensures.values, down, rows) in
    let same = c.column-column.ensures.values ∙ whole_column slots c.args.k all ∙ ap (λ (table : StoredTable). column_of (rows_in table.slots) c.args.k) c.stored-stored.ensures in
    subst (λ (cells : List Value). AreEnds (known cells) c.ends.result) same c.ends.ensures

pub returns : goal.returns
returns c =
    let slots = c.stored-stored.result.now.slots in
    let same = live_known slots c.live-live.result.now c.args.k c.column-column.result.now.values c.column-column.ensures.values c.live-live.ensures.rows ∙ ap (λ (table : StoredTable). known (column_of (rows_in table.slots) c.args.k)) c.stored-stored.ensures in
    subst (λ cells. AreEnds cells c.ends-2.result) same c.ends-2.ensures
