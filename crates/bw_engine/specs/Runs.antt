-- Slots that are shown in runs: the values of 64 slots are read column by column, and shown row by row.
use Rattle.std.specs.Prelude.{Bool, List, [], length, map, min, slice_index_or, ℕ, ◌*◌, ◌+◌, ◌-◌, ◌/◌, ◌<◌, ◌∷◌, ◌≡◌}
use Rattle.std.specs.List.{filter, range_with_len}
use Rattle.bw_table.specs.Slots.{Slot, live_slot, slot_at}
use Rattle.bw_sql.specs.Rows.{joined}
use Rattle.bw_column.specs.Values as columns
use Rattle.bw_model.specs.Store.{Row, Value, value_at}

-- the values at these indexes of a row
abbrev pub line_at : List ℕ → Row → List Value
line_at places row = map (λ place. value_at row place) places

-- the values of row i of columns, across
abbrev pub line_across : List (List Value) → ℕ → List Value
line_across runs i = map (λ values. columns.value_at values i) runs

-- the values of those of n rows, from row `at` on, that pass
abbrev pub lines_from : (ℕ → List Value) → (ℕ → Bool) → (at n : ℕ) → List Value
lines_from line passes at n = joined (map line (filter passes (range_with_len at n)))

-- the line of slot i
abbrev pub slot_line : List ℕ → List Slot → ℕ → List Value
slot_line places slots i = line_at places (slot_at slots i).row

-- the value of row `at + i` of a column, as a line
abbrev pub value_line : List Value → ℕ → ℕ → List Value
value_line values at i = columns.value_at values (at + i) ∷ []

-- each run holds the values of its column in n slots, from slot `at` on
pub record AreRead (slots : List Slot) (places : List ℕ) (at n : ℕ) (runs : List (List Value)) : Type 0 where
  pub count : length runs ≡ length places
  pub values : (p i : ℕ) → p < length places → i < n → columns.value_at (slice_index_or runs p []) i ≡ columns.value_at (slot_at slots (at + i)).row (slice_index_or places p 0)

-- the values of one column in the slots that pass, as one list per run of 64 slots
abbrev pub found_runs : ℕ → List Slot → (ℕ → Bool) → List (List Value)
found_runs place slots passes = map (λ q. lines_from (slot_line (place ∷ []) slots) passes (64 * q) (min (length slots - 64 * q) 64)) (range_with_len 0 ((length slots + 63) / 64))

-- slots of a single column with these cells
abbrev pub slots_of : List Value → List Slot
slots_of cells = map (λ cell. live_slot (cell ∷ [])) cells

-- the cells of those of 64 slots, from slot `at` on, that pass
abbrev pub found_run : List Value → (ℕ → Bool) → ℕ → List Value
found_run cells passes at = lines_from (slot_line (0 ∷ []) (slots_of cells)) passes at (min (length (slots_of cells) - at) 64)
