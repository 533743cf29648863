use Rattle.std.proofs.Common.{◌≡◌, ◌∙◌, List, ap, arith, get_or, length, map, subst, sym}
use Rattle.std.proofs.lemmas.List.{length-map}
use Rattle.bw_cells.specs.Known.{known}
use Rattle.bw_code.specs.Fittings.{AreEnds}
use Rattle.bw_code.specs.Types.{IsTyped}
use Rattle.bw_column.specs.Values as values
use Rattle.bw_table.specs.Slots.{Slot, live_slots}
use Rattle.bw_model.specs.Filing.{column_of}
use Rattle.bw_model.specs.Store.{Row, Value}
use Rattle.bw_engine.specs.Stores.{StoredTable, rows_in}
use Rattle.bw_engine.proofs.Saved.{whole_column}
use Rattle.bw_engine.proofs.live_cells.live_column.Goals as goal

pub returns-then-row_count-slots-clause-cells : goal.returns-then-row_count-slots-clause-cells
returns-then-row_count-slots-clause-cells c =
    let slots = c.stored-stored.result.now.slots in
    let rows : length (map (λ (slot : Slot). slot.row) slots) ≡ length slots = length-map slots (λ (slot : Slot). slot.row) in
    let down = length-map (map (λ (slot : Slot). slot.row) slots) (λ (row : Row). values.value_at row c.args.k) in
    let all : length (live_slots slots) ≡ length slots = omega (arith, c.row_count.ensures.count, c.len-slots.ensures.count, c.if-row_count-slots.true, ap length c.column-column.ensures.values, down, rows) in
    c.column-column.ensures.values ∙ whole_column slots c.args.k all ∙ ap (λ (table : StoredTable). column_of (rows_in table.slots) c.args.k) c.stored-stored.ensures

pub returns-then-row_count-slots-clause-typed : goal.returns-then-row_count-slots-clause-typed
returns-then-row_count-slots-clause-typed c = rw c.stored-stored.ensures at c.column-column.ensures.typed

pub new-requires : goal.new-requires
new-requires c = subst (λ (cells : List Value). AreEnds (known cells) c.live_ends.result) (sym c.in_ok-cells.ensures.cells) c.live_ends.ensures

pub returns-clause-typed : goal.returns-clause-typed
returns-clause-typed c = λ h. subst (λ (cells : List Value). IsTyped (get_or c.args.table.now.headers c.args.k h) cells) (sym c.new.ensures) (c.in_ok-cells.ensures.typed h)
