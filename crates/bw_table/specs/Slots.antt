-- The slots of a table: each has a row, and is live or dead. The rows of the table are those of its live slots, in order.
use Rattle.std.specs.Prelude.{Bool, List, Option, [], length, map, slice_index_or, true, ℕ, ℤ, ◌<◌, ◌^◌, ◌≡◌, ◌≤◌}
use Rattle.std.specs.List.{All, AllZip, filter}
use Rattle.bw_mask.specs.Masks.{MaskRows, len, row_at}
use Rattle.bw_code.specs.declared.encoding.Encoding.{Encoding}
use Rattle.bw_code.specs.declared.kind.Layout.{Layout}
use Rattle.bw_column.specs.Columns.{ColumnView}
use Rattle.bw_code.specs.Lists.{made}
use Rattle.bw_column.specs.Values.{IsNullOrHeld, value_at}

pub record Slot : Type 0 where
  pub row : List (Option ℤ)
  pub live : Bool

-- the slots, and the layout and the encoding of each column
pub record SlotsView : Type 0 where
  pub slots : List Slot
  pub layouts : List Layout
  pub encodings : List Encoding

-- the largest number of slots
abbrev pub slot_limit : ℕ
slot_limit = 2 ^ 24

abbrev pub live_slot : List (Option ℤ) → Slot
live_slot row = record { row = row; live = true }

-- slot i; past the last slot, one with an empty row
abbrev pub slot_at : List Slot → ℕ → Slot
slot_at slots i = slice_index_or slots i (live_slot [])

abbrev pub live_slots : List Slot → List Slot
live_slots slots = filter (λ slot. slot.live) slots

-- column k of rows, from top to bottom
abbrev pub column_of : List (List (Option ℤ)) → ℕ → List (Option ℤ)
column_of rows k = map (λ row. value_at row k) rows

-- column k of slots, dead ones included
abbrev pub slot_column : List Slot → ℕ → List (Option ℤ)
slot_column slots k = column_of (map (λ slot. slot.row) slots) k

-- row i of columns, across
abbrev pub row_of : List ColumnView → ℕ → List (Option ℤ)
row_of columns i = map (λ column. value_at column.values i) columns

abbrev pub slot_of : List ColumnView → MaskRows → ℕ → Slot
slot_of columns live i = record { row = row_of columns i; live = row_at live i }

abbrev pub slots_of : List ColumnView → MaskRows → List Slot
slots_of columns live = made (len live) (slot_of columns live)

-- a row that has for each column null or an integer that its layout holds
abbrev pub IsHeldRow : List Layout → List (Option ℤ) → Type 0
IsHeldRow layouts row = AllZip IsNullOrHeld layouts row

-- columns of values that their layouts hold, each as long as the mask of the live slots
pub record AreColumns (columns : List ColumnView) (live : MaskRows) : Type 0 where
  pub rows : (k : ℕ) (d : ColumnView) → k < length columns → length (slice_index_or columns k d).values ≡ len live
  pub few : len live ≤ 2 ^ 24
  pub held : All (λ column. All (IsNullOrHeld column.layout) column.values) columns
