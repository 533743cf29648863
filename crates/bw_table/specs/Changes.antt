-- How INSERT, UPDATE, DELETE and REBUILD change the slots of a table and the encodings of its columns.
use Rattle.std.specs.Prelude.{Bool, List, None, Option, Some, [], false, if◌then◌else◌, length, map, nat_le, not, slice_index_or, true, ℕ, ℤ, ◌&&◌, ◌++◌, ◌+◌, ◌<◌, ◌==◌, ◌≡◌}
use Rattle.std.specs.List.{All, filter, list_all, range_with_len}
use Rattle.std.specs.Map.{lookup}
use Rattle.bw_mask.specs.Masks.{MaskRows, len, row_at}
use Rattle.bw_code.specs.Encodings.{IsFit, kind_of}
use Rattle.bw_code.specs.declared.encoding.Encoding.{Encoding}
use Rattle.bw_code.specs.Types.{IsNullOrOfType, is_null_or_of_type}
use Rattle.bw_code.specs.declared.kind.ColumnType.{ColumnType}
use Rattle.bw_code.specs.declared.kind.ColumnType.TheVariants.{Integer}
use Rattle.bw_code.specs.declared.kind.Kind.{Kind}
use Rattle.bw_code.specs.declared.kind.Layout.{Layout}
use Rattle.bw_code.specs.Lists.{made}
use Rattle.bw_column.specs.Preparing.{IsEncodingFor}
use Rattle.bw_column.specs.Values.{IsNullOrHeld, known, value_at}
use Rattle.bw_table.specs.Slots.{Slot, SlotsView, column_of, live_slot, live_slots, slot_at, slot_column, slot_limit}
use Rattle.bw_table.specs.declared.choice.Choice.{Choice}
use Rattle.bw_table.specs.declared.setting.SetTo.{SetTo}
use Rattle.bw_table.specs.declared.setting.SetTo.TheVariants.{Column, Value}

-- each column's encoding follows from its values and its new ones
abbrev pub AreEncodingsFor : List Slot → List Encoding → List (List (Option ℤ)) → List Encoding → Type 0
AreEncodingsFor slots own rows encodings = (k : ℕ) (d e : Encoding) → k < length own → IsEncodingFor (slot_column slots k) (slice_index_or own k d) (column_of rows k) (slice_index_or encodings k e)

-- the rows are appended in live slots
pub record AreAppended (old : SlotsView) (rows : List (List (Option ℤ))) (new : SlotsView) : Type 0 where
  pub slots_are : new.slots ≡ old.slots ++ map live_slot rows
  pub layouts_are : new.layouts ≡ old.layouts
  pub width : length new.encodings ≡ length old.encodings
  pub encodings_are : AreEncodingsFor old.slots old.encodings rows new.encodings

-- how a column is to be rebuilt: by the first choice for it
abbrev pub choice_of : List (ℕ × Choice) → ℕ → Option Choice
choice_of choices k = lookup (λ column. column == k) choices

abbrev pub chosen_layout : Option Choice → Layout → Layout
chosen_layout None own = own
chosen_layout (Some choice) own = choice.layout

abbrev pub kind_or : Option Kind → Kind → Kind
kind_or None own = own
kind_or (Some kind) own = kind

-- a choice that names no kind keeps the column's kind
abbrev pub chosen_kind : Option Choice → Kind → Kind
chosen_kind None own = own
chosen_kind (Some choice) own = kind_or choice.kind own

-- a column with the encoding of the chosen kind that fits its values
pub record IsBuiltAnew (choice : Option Choice) (values : List (Option ℤ)) (own e : Encoding) : Type 0 where
  pub kind : kind_of e ≡ chosen_kind choice (kind_of own)
  pub fits : IsFit (known values) e

-- the layout chosen for each column holds its values
abbrev pub HoldAsChosen : List (ℕ × Choice) → SlotsView → Type 0
HoldAsChosen choices slots = (k : ℕ) (l : Layout) → k < length slots.layouts → All (IsNullOrHeld (chosen_layout (choice_of choices k) (slice_index_or slots.layouts k l))) (slot_column slots.slots k)

-- the live slots alone, with each column rebuilt and the choices applied
pub record AreRebuilt (choices : List (ℕ × Choice)) (old new : SlotsView) : Type 0 where
  pub slots_are : new.slots ≡ live_slots old.slots
  pub layouts_count : length new.layouts ≡ length old.layouts
  pub encodings_count : length new.encodings ≡ length old.encodings
  pub layouts_are : (k : ℕ) (l : Layout) → k < length old.layouts → slice_index_or new.layouts k l ≡ chosen_layout (choice_of choices k) (slice_index_or old.layouts k l)
  pub encodings_are : (k : ℕ) (e : Encoding) → k < length old.encodings → IsBuiltAnew (choice_of choices k) (slot_column new.slots k) (slice_index_or old.encodings k e) (slice_index_or new.encodings k e)

-- there is no room for the rows, even if the dead slots are dropped
abbrev pub IsFull : SlotsView → List (List (Option ℤ)) → Type 0
IsFull old rows = slot_limit < length (live_slots old.slots) + length rows

abbrev pub Inserts : Bool → SlotsView → List (List (Option ℤ)) → SlotsView → Type 0
Inserts true old rows new = AreAppended old rows new
Inserts false old rows new = (compact : SlotsView) × AreRebuilt [] old compact × AreAppended compact rows new

-- the rows are appended; if there are not enough slots for them, the dead ones are dropped first
abbrev pub AreInserted : SlotsView → List (List (Option ℤ)) → SlotsView → Type 0
AreInserted old rows new = Inserts (nat_le (length old.slots + length rows) slot_limit) old rows new

-- the slots, with the found ones dead
abbrev pub slots_without : MaskRows → List Slot → List Slot
slots_without found slots = made (length slots) (λ i. record { row = (slot_at slots i).row; live = (slot_at slots i).live && not (row_at found i) })

-- the indexes of the mask's set places, in order
abbrev pub places_below : MaskRows → ℕ → List ℕ
places_below mask n = filter (row_at mask) (range_with_len 0 n)

abbrev pub places : MaskRows → List ℕ
places mask = places_below mask (len mask)

-- what a column is set to in a row
abbrev pub value_for : SetTo → List (Option ℤ) → Option ℤ
value_for (Value x) row = x
value_for (Column k) row = value_at row k

-- the type of column k; past the last, INTEGER
abbrev pub type_at : List ColumnType → ℕ → ColumnType
type_at types k = slice_index_or types k Integer

-- column k may be set to null or a value of its type, or to any column of the table
abbrev pub MayTake : List ColumnType → ℕ → SetTo → Type 0
MayTake types k (Value x) = IsNullOrOfType (type_at types k) x
MayTake types k (Column from) = from < length types

abbrev pub IsSetTo : List ColumnType → ℕ × SetTo → Type 0
IsSetTo types set = MayTake types set.0 set.1

-- whether each set gives, in a row, null or a value of its column's type
abbrev pub sets_fit : List ColumnType → List (ℕ × SetTo) → List (Option ℤ) → Bool
sets_fit types sets row = list_all (λ set. is_null_or_of_type (type_at types set.0) (value_for set.1 row)) sets

-- the rows of the found slots, in order
abbrev pub rows_found : MaskRows → List Slot → List (List (Option ℤ))
rows_found found slots = map (λ i. (slot_at slots i).row) (places found)

-- whether the sets fit in each found slot; a value that isn't copied always fits
abbrev pub copies_fit : List ColumnType → MaskRows → List (ℕ × SetTo) → List Slot → Bool
copies_fit types found sets slots = list_all (sets_fit types sets) (rows_found found slots)

-- what column k is set to, if anything
abbrev pub set_of : List (ℕ × SetTo) → ℕ → Option SetTo
set_of sets k = lookup (λ column. column == k) sets

-- the new value k of a row: unchanged unless the column is set
abbrev pub new_value : Option SetTo → List (Option ℤ) → ℕ → Option ℤ
new_value None row k = value_at row k
new_value (Some to) row k = value_for to row

-- the row with its columns set, each from the row as it was
abbrev pub row_with : List (ℕ × SetTo) → List (Option ℤ) → List (Option ℤ)
row_with sets row = made (length row) (λ k. new_value (set_of sets k) row k)

-- the slots, with columns set in the found ones
abbrev pub slots_with : MaskRows → List (ℕ × SetTo) → List Slot → List Slot
slots_with found sets slots = made (length slots) (λ i. record { row = if row_at found i then row_with sets (slot_at slots i).row else (slot_at slots i).row; live = (slot_at slots i).live })

-- the encoding of a column that is set follows from its values and its new ones; any other is unchanged
abbrev pub IsEncodingWith : List (List (Option ℤ)) → Option SetTo → List (Option ℤ) → Encoding → Encoding → Type 0
IsEncodingWith rows None old own encoding = encoding ≡ own
IsEncodingWith rows (Some to) old own encoding = IsEncodingFor old own (map (value_for to) rows) encoding

abbrev pub AreEncodingsWith : MaskRows → List (ℕ × SetTo) → List Slot → List Encoding → List Encoding → Type 0
AreEncodingsWith found sets slots own encodings = (k : ℕ) (d e : Encoding) → k < length own → IsEncodingWith (rows_found found slots) (set_of sets k) (slot_column slots k) (slice_index_or own k d) (slice_index_or encodings k e)

-- columns are set in the found slots, all at once
pub record AreUpdated (found : MaskRows) (sets : List (ℕ × SetTo)) (old new : SlotsView) : Type 0 where
  pub slots_are : new.slots ≡ slots_with found sets old.slots
  pub layouts_are : new.layouts ≡ old.layouts
  pub width : length new.encodings ≡ length old.encodings
  pub encodings_are : AreEncodingsWith found sets old.slots old.encodings new.encodings
