-- A table: its headers, its slots, and the encoding of each column.
use Rattle.std.specs.Prelude.{IsTrue, List, Option, [], length, map, slice_index_or, ℕ, ◌<◌, ◌≡◌}
use Rattle.std.specs.List.{All}
use Rattle.bw_code.specs.Encodings.{kind_of}
use Rattle.bw_code.specs.Types.{IsRowOf, holds, holds_its_type, types_of}
use Rattle.bw_code.specs.declared.encoding.Encoding.{Encoding}
use Rattle.bw_code.specs.declared.header.Header.{Header}
use Rattle.bw_code.specs.declared.kind.Layout.{Layout}
use Rattle.bw_table.specs.Changes.{choice_of, chosen_kind, chosen_layout}
use Rattle.bw_table.specs.Opening.{IsFitted}
use Rattle.bw_table.specs.Slots.{Slot, SlotsView}
use Rattle.bw_table.specs.declared.choice.Choice.{Choice}

pub record TableView (N : Type 0) : Type 0 where
  pub headers : List (Header N)
  pub slots : List Slot
  pub encodings : List Encoding

abbrev pub layouts : {N : Type 0} → List (Header N) → List Layout
layouts headers = map (λ header. header.layout) headers

-- the slots of a table, with the layout and the encoding of each column
abbrev pub slots_in : {N : Type 0} → TableView N → SlotsView
slots_in table = record { slots = table.slots; layouts = layouts table.headers; encodings = table.encodings }

-- the headers give the layout, the kind and the type of each column: each slot has a value of this type, which the layout holds
pub record AreHeadersOf {N : Type 0} (headers : List (Header N)) (slots : SlotsView) : Type 0 where
  pub layouts_are : layouts headers ≡ slots.layouts
  pub kinds_are : map (λ header. header.kind) headers ≡ map kind_of slots.encodings
  pub typed : All (λ slot. IsRowOf (types_of headers) slot.row) slots.slots
  pub held : All (λ header. IsTrue (holds_its_type header)) headers

-- one encoding for each header, of its kind, that fits a column without values
pub record AreFirst {N : Type 0} (headers : List (Header N)) (encodings : List Encoding) : Type 0 where
  pub count : length encodings ≡ length headers
  pub each : (k : ℕ) (h : Header N) (e : Encoding) → k < length headers → IsFitted (slice_index_or headers k h) [] (slice_index_or encodings k e)

-- a header with the choice for its column applied
abbrev pub header_by : {N : Type 0} → Option Choice → Header N → Header N
header_by choice header = record header { layout = chosen_layout choice header.layout; kind = chosen_kind choice header.kind }

pub record AreChosen {N : Type 0} (choices : List (ℕ × Choice)) (old new : List (Header N)) : Type 0 where
  pub count : length new ≡ length old
  pub each : (k : ℕ) (d : Header N) → k < length old → slice_index_or new k d ≡ header_by (choice_of choices k) (slice_index_or old k d)

-- the layout chosen for each column holds its type
abbrev pub HoldTypes : {N : Type 0} → List (ℕ × Choice) → List (Header N) → Type 0
HoldTypes {N} choices headers = (k : ℕ) (h : Header N) → k < length headers → IsTrue (holds (chosen_layout (choice_of choices k) (slice_index_or headers k h).layout) (slice_index_or headers k h).column_type)
