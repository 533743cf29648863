-- The model's tables, derived from the slots of the stored ones.
use Rattle.std.specs.Prelude.{List, Option, length, map, ℕ, ◌&&◌, ◌<◌, ◌≡◌}
use Rattle.bw_mask.specs.Masks.{MaskRows, len, row_at}
use Rattle.bw_table.specs.Slots.{Slot, live_slots, slot_at}
use Rattle.bw_table.specs.Tables.{TableView}
use Rattle.bw_model.specs.Store.{Row, Store, Table}
use Rattle.bw_plan.specs.Plans.{Plan}
use Rattle.bw_engine.specs.Found.{is_found_by}

-- the rows of slots, dead ones too
abbrev pub rows_of_slots : List Slot → List Row
rows_of_slots slots = map (λ slot. slot.row) slots

-- the rows of the live slots, in order
abbrev pub rows_in : List Slot → List Row
rows_in slots = map (λ slot. slot.row) (live_slots slots)

-- the live slots whose rows a plan finds
abbrev pub AreFoundIn : List Slot → Option Plan → MaskRows → Type 0
AreFoundIn slots plan found = (len found ≡ length slots) × ((i : ℕ) → i < length slots → row_at found i ≡ ((slot_at slots i).live && is_found_by plan (slot_at slots i).row))

-- a table that is stored: its headers, its slots and the encodings of its columns
abbrev pub StoredTable : Type 0
StoredTable = TableView (List ℕ)

-- the table of the model: without dead slots and encodings
abbrev pub table_in : StoredTable → Table
table_in table = record { headers = table.headers; rows = rows_in table.slots }

-- tables that are stored, by their names
abbrev pub Stored : Type 0
Stored = List (List ℕ × StoredTable)

-- the store of the model
abbrev pub store_of : Stored → Store
store_of tables = map (λ entry. (entry.0, table_in entry.1)) tables
