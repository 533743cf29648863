-- What a change of the slots of a table makes of its rows.
use Rattle.std.proofs.Common.{◌≡◌, ◌∙◌, ℕ, ◌+◌, ◌<◌, ◌&&◌, Bool, true, false, not, List, [], ◌∷◌, ◌++◌, if◌then◌else◌, length, map, Option, refl, sym, ap, inl, inr}
use Rattle.std.specs.Prelude.{nat_le}
use Rattle.std.specs.List.{filter}
use Rattle.std.proofs.lemmas.Bool.{cases_Bool}
use Rattle.std.proofs.lemmas.List.{get_or-map, length-map, map-append}
use Rattle.std.proofs.lemmas.List.Elements.{filter-append}
use Rattle.bw_mask.specs.Masks.{MaskRows}
use Rattle.bw_code.specs.Lists.{made}
use Rattle.bw_code.proofs.Lists.{made_is}
use Rattle.bw_table.specs.Changes.{AreAppended, AreInserted, AreRebuilt, Inserts, row_with, slots_with, slots_without}
use Rattle.bw_table.specs.Slots.{Slot, SlotsView, live_slot, live_slots, slot_at, slot_limit}
use Rattle.bw_table.specs.declared.choice.Choice.{Choice}
use Rattle.bw_table.specs.declared.setting.SetTo.{SetTo}
use Rattle.bw_model.specs.Store.{Row}
use Rattle.bw_plan.specs.Plans.{Plan}
use Rattle.bw_engine.specs.Found.{is_found_by}
use Rattle.bw_engine.specs.Stores.{AreFoundIn, rows_in}

-- rows that are appended are live
pub new_rows : (rows : List Row) → rows_in (map live_slot rows) ≡ rows
new_rows [] = refl
new_rows (row ∷ rows) = ap (λ l. row ∷ l) (new_rows rows)

all_live : (slots : List Slot) → live_slots (live_slots slots) ≡ live_slots slots
all_live [] = refl
all_live (slot ∷ slots) =
    elim (cases_Bool slot.live) [
      | inl e ↦ rw e (ap (λ l. record { row = slot.row; live = true } ∷ l) (all_live slots))
      | inr e ↦ rw e (all_live slots)
    ]

module _ (old new : SlotsView) where
  pub appended_rows : (rows : List Row) → AreAppended old rows new → rows_in new.slots ≡ rows_in old.slots ++ rows
  appended_rows rows are =
      ap rows_in are.slots_are
      ∙ ap (map (λ slot. slot.row)) (filter-append (λ (slot : Slot). slot.live) old.slots (map live_slot rows))
      ∙ map-append (λ (slot : Slot). slot.row) (live_slots old.slots) (live_slots (map live_slot rows))
      ∙ ap (λ l. rows_in old.slots ++ l) (new_rows rows)

  pub rebuilt_rows : (choices : List (ℕ × Choice)) → AreRebuilt choices old new → rows_in new.slots ≡ rows_in old.slots
  rebuilt_rows choices are = ap rows_in are.slots_are ∙ ap (map (λ slot. slot.row)) (all_live old.slots)

by_room : (fits : Bool) (old new : SlotsView) (rows : List Row) → Inserts fits old rows new → rows_in new.slots ≡ rows_in old.slots ++ rows
by_room true old new rows are = appended_rows old new rows are
by_room false old new rows are = appended_rows are.0 new rows are.2 ∙ ap (λ l. l ++ rows) (rebuilt_rows old are.0 [] are.1)

pub inserted_rows : (old new : SlotsView) (rows : List Row) → AreInserted old rows new → rows_in new.slots ≡ rows_in old.slots ++ rows
inserted_rows old new rows are = by_room (nat_le (length old.slots + length rows) slot_limit) old new rows are

-- slots that are made place by place, each from the slot that stood there
made_mapped : (slots : List Slot) (make : ℕ → Slot) (change : Slot → Slot) → ((i : ℕ) → i < length slots → make i ≡ change (slot_at slots i)) → made (length slots) make ≡ map change slots
made_mapped slots make change same =
    sym (made_is (length slots) make (map change slots) (live_slot []) (length-map slots change) (λ i within. get_or-map change slots i (live_slot []) (live_slot []) within ∙ sym (same i within)))

-- a slot whose row passes is dead
module _ (passes : Row → Bool) where
  abbrev without : Slot → Slot
  without slot = record { row = slot.row; live = slot.live && not (slot.live && passes slot.row) }

  left_rows : (slots : List Slot) → rows_in (map without slots) ≡ filter (λ row. not (passes row)) (rows_in slots)
  left_rows [] = refl
  left_rows (slot ∷ slots) =
      elim (cases_Bool slot.live) [
        | inl e ↦
            elim (cases_Bool (passes slot.row)) [
              | inl p ↦ rw (e, p) (left_rows slots)
              | inr p ↦ rw (e, p) (ap (λ l. slot.row ∷ l) (left_rows slots))
            ]
        | inr e ↦ rw e (left_rows slots)
      ]

  module _ (change : Row → Row) where
    abbrev changed : Slot → Slot
    changed slot = record { row = if slot.live && passes slot.row then change slot.row else slot.row; live = slot.live }

    changed_rows : (slots : List Slot) → rows_in (map changed slots) ≡ map (λ row. if passes row then change row else row) (rows_in slots)
    changed_rows [] = refl
    changed_rows (slot ∷ slots) =
        elim (cases_Bool slot.live) [
          | inl e ↦ rw e (ap (λ l. (if passes slot.row then change slot.row else slot.row) ∷ l) (changed_rows slots))
          | inr e ↦ rw e (changed_rows slots)
        ]

module _ (slots : List Slot) (plan : Option Plan) (found : MaskRows) (are : AreFoundIn slots plan found) where
  pub deleted_rows : rows_in (slots_without found slots) ≡ filter (λ row. not (is_found_by plan row)) (rows_in slots)
  deleted_rows =
      ap rows_in (made_mapped slots _ (without (is_found_by plan)) (λ i within. ap (λ b. record { row = (slot_at slots i).row; live = (slot_at slots i).live && not b }) (are.1 i within)))
      ∙ left_rows (is_found_by plan) slots

  pub updated_rows : (sets : List (ℕ × SetTo)) → rows_in (slots_with found sets slots) ≡ map (λ row. if is_found_by plan row then row_with sets row else row) (rows_in slots)
  updated_rows sets =
      ap rows_in (made_mapped slots _ (changed (is_found_by plan) (row_with sets)) (λ i within. ap (λ b. record { row = if b then row_with sets (slot_at slots i).row else (slot_at slots i).row; live = (slot_at slots i).live }) (are.1 i within)))
      ∙ changed_rows (is_found_by plan) (row_with sets) slots
