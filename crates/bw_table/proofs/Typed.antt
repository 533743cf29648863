-- The values of a table's columns are of their types, and stay so. A layout that holds a type holds its values.
use Rattle.std.proofs.Common.{Bool, Err, IsTrue, List, None, Ok, OnErr, Option, Result, Some, [], ap, arith, false, get_or, inl, inr, if◌then◌else◌, length, map, nat_le, not, refl, subst, true, ℕ, ℤ, ◌&&◌, ◌+◌, ◌∙◌, ◌∷◌, ◌<◌, ◌≡◌}
use Rattle.std.specs.Prelude.{OnOk}
use Rattle.std.specs.List.{All, AllZip}
use Rattle.std.proofs.lemmas.Bool.{cases_Bool}
use Rattle.std.proofs.lemmas.Int.{ints}
use Rattle.std.proofs.lemmas.List.{get_or-map, get_or_default, length-map}
use Rattle.std.proofs.lemmas.List.Elements.{All-append, All-filter, All-map}
use Rattle.std.proofs.lemmas.List.Sums.{AllPass-from_list_all}
use Rattle.bw_mask.specs.Masks.{MaskRows, len, row_at}
use Rattle.bw_code.specs.Types.{IsNullOrOfType, IsOfType, IsRowOf, holds, is_null_or_of_type}
use Rattle.bw_code.specs.declared.kind.ColumnType.{ColumnType}
use Rattle.bw_code.specs.declared.kind.ColumnType.TheVariants.{BigInt, Integer}
use Rattle.bw_code.specs.declared.kind.Layout.{Layout}
use Rattle.bw_code.specs.declared.kind.Layout.TheVariants.{H, P, S, V}
use Rattle.bw_code.proofs.Lists.{made_at, made_len}
use Rattle.bw_code.proofs.Types.{null_or_of_type, zipped_at, zipped_by}
use Rattle.bw_column.specs.Places.{rank}
use Rattle.bw_column.specs.Values.{IsHeld, IsNullOrHeld}
use Rattle.bw_table.specs.Changes.{AreAppended, AreInserted, Inserts, copies_fit, new_value, places, row_with, rows_found, set_of, sets_fit, slots_with, slots_without, type_at, value_for}
use Rattle.bw_table.specs.Slots.{Slot, SlotsView, live_slot, live_slots, slot_at, slot_limit}
use Rattle.bw_table.specs.declared.setting.SetTo.{SetTo}
use Rattle.bw_table.proofs.Held.{set_is_one}
use Rattle.bw_column.proofs.Ordered.{place_at}

-- ---- types and layouts

held_by_type : (l : Layout) (t : ColumnType) (x : ℤ) → IsTrue (holds l t) → IsOfType t x → IsHeld l x
held_by_type P Integer x can of = omega (arith, ints, of)
held_by_type P BigInt x can of = of
held_by_type V Integer x can of = omega (arith, ints, of)
held_by_type V BigInt x can of = of
held_by_type H Integer x can of = of
held_by_type H BigInt x can of = absurd cc
held_by_type S Integer x can of = omega (arith, ints, of)
held_by_type S BigInt x can of = of

pub null_or_held : (l : Layout) (t : ColumnType) (value : Option ℤ) → IsTrue (holds l t) → IsNullOrOfType t value → IsNullOrHeld l value
null_or_held l t None can of = tt
null_or_held l t (Some x) can of = held_by_type l t x can of

pub all_held : (l : Layout) (t : ColumnType) (values : List (Option ℤ)) → IsTrue (holds l t) → All (IsNullOrOfType t) values → All (IsNullOrHeld l) values
all_held l t values can all k d h = null_or_held l t (get_or values k d) can (all k d h)

widened : (x : ℤ) → IsOfType Integer x → IsOfType BigInt x
widened x of = omega (arith, ints, of)

-- an INTEGER is of every type, and BIGINT has the values of every type
pub of_any : (t : ColumnType) (value : Option ℤ) → IsNullOrOfType Integer value → IsNullOrOfType t value
of_any t None of = tt
of_any Integer (Some x) of = of
of_any BigInt (Some x) of = widened x of

pub of_widest : (t : ColumnType) (value : Option ℤ) → IsNullOrOfType t value → IsNullOrOfType BigInt value
of_widest t None of = tt
of_widest Integer (Some x) of = widened x of
of_widest BigInt (Some x) of = of

-- ---- slots

pub zipped_long : {A B : Type 0} (R : A → B → Type 0) (xs : List A) (ys : List B) → AllZip R xs ys → length ys ≡ length xs
zipped_long R [] [] all = refl
zipped_long R [] (y ∷ ys) all = absurd all
zipped_long R (x ∷ xs) [] all = absurd all
zipped_long R (x ∷ xs) (y ∷ ys) all = omega (arith, zipped_long R xs ys all.1)

abbrev pub AreTyped : List ColumnType → List Slot → Type 0
AreTyped types slots = All (λ slot. IsRowOf types slot.row) slots

module _ (types : List ColumnType) where
  pub typed_live : (rows : List (List (Option ℤ))) → All (IsRowOf types) rows → AreTyped types (map live_slot rows)
  typed_live rows all = All-map (λ (slot : Slot). IsRowOf types slot.row) live_slot rows all

  typed_appended : (old new : SlotsView) (rows : List (List (Option ℤ))) → AreAppended old rows new → AreTyped types old.slots → All (IsRowOf types) rows → AreTyped types new.slots
  typed_appended old new rows are own all = rw are.slots_are (All-append (λ (slot : Slot). IsRowOf types slot.row) old.slots (map live_slot rows) own (typed_live rows all))

  pub typed_rebuilt : (slots : List Slot) → AreTyped types slots → AreTyped types (live_slots slots)
  typed_rebuilt slots own = All-filter (λ (slot : Slot). slot.live) (λ (slot : Slot). IsRowOf types slot.row) slots own

  typed_by : (b : Bool) (old new : SlotsView) (rows : List (List (Option ℤ))) → Inserts b old rows new → AreTyped types old.slots → All (IsRowOf types) rows → AreTyped types new.slots
  typed_by true old new rows are own all = typed_appended old new rows are own all
  typed_by false old new rows are own all =
      let compact : AreTyped types are.0.slots = rw are.1.slots_are (typed_rebuilt old.slots own) in
      typed_appended are.0 new rows are.2 compact all

  pub typed_inserted : (old new : SlotsView) (rows : List (List (Option ℤ))) → AreInserted old rows new → AreTyped types old.slots → All (IsRowOf types) rows → AreTyped types new.slots
  typed_inserted old new rows are own all = typed_by (nat_le (length old.slots + length rows) slot_limit) old new rows are own all

  -- slots with other rows, or none
  pub typed_deleted : (found : MaskRows) (slots : List Slot) → AreTyped types slots → AreTyped types (slots_without found slots)
  typed_deleted found slots own i d l =
      let f : ℕ → Slot = λ j. record { row = (slot_at slots j).row; live = (slot_at slots j).live && not (row_at found j) } in
      let low : i < length slots = omega (arith, l, made_len (length slots) f) in
      rw (made_at (length slots) f i d low) (own i (live_slot []) low)

  new_typed : (row : List (Option ℤ)) → IsRowOf types row → (k : ℕ) (d : ColumnType) → k < length types → (to : Option SetTo) → ((t : SetTo) → to ≡ Some t → IsNullOrOfType (get_or types k d) (value_for t row)) → IsNullOrOfType (get_or types k d) (new_value to row k)
  new_typed row own k d low None sets = zipped_at IsNullOrOfType types row k d None own low
  new_typed row own k d low (Some t) sets = sets t refl

  row_typed : (sets : List (ℕ × SetTo)) (row : List (Option ℤ)) → IsRowOf types row → sets_fit types sets row ≡ true → IsRowOf types (row_with sets row)
  row_typed sets row own fit =
      let f : ℕ → Option ℤ = λ k. new_value (set_of sets k) row k in
      let wide = zipped_long IsNullOrOfType types row own in
      let each : All (λ set. IsNullOrOfType (type_at types set.0) (value_for set.1 row)) sets =
      λ j d l. null_or_of_type _ _ (AllPass-from_list_all (λ set. is_null_or_of_type (type_at types set.0) (value_for set.1 row)) sets fit j d l) in
      zipped_by IsNullOrOfType types (row_with sets row) (made_len (length row) f ∙ wide) (λ k d e low.
      rw (made_at (length row) f k e (omega (arith, low, wide))) (new_typed row own k d low (set_of sets k) (λ t is.
      subst (λ (u : ColumnType). IsNullOrOfType u (value_for t row)) (get_or_default types k Integer d low) (set_is_one (λ set. IsNullOrOfType (type_at types set.0) (value_for set.1 row)) sets each k t is))))

  -- what is so of each found row is so of that of a found slot
  found_fits : (found : MaskRows) (sets : List (ℕ × SetTo)) (slots : List Slot) → copies_fit types found sets slots ≡ true → (i : ℕ) → row_at found i ≡ true → i < len found → sets_fit types sets (slot_at slots i).row ≡ true
  found_fits found sets slots fit i e low =
      let f : ℕ → List (Option ℤ) = λ j. (slot_at slots j).row in
      let there = place_at found (len found) i low (omega arith) e in
      let n = rank found i in
      subst (λ row. sets_fit types sets row ≡ true) (get_or-map f (places found) n 0 [] there.0 ∙ ap f there.1)
      (AllPass-from_list_all (sets_fit types sets) (rows_found found slots) fit n [] (omega (arith, there.0, length-map (places found) f)))

  pub typed_updated : (found : MaskRows) (sets : List (ℕ × SetTo)) (slots : List Slot) → len found ≡ length slots → AreTyped types slots → copies_fit types found sets slots ≡ true → AreTyped types (slots_with found sets slots)
  typed_updated found sets slots long own fit i d l =
      let f : ℕ → Slot = λ j. record { row = if row_at found j then row_with sets (slot_at slots j).row else (slot_at slots j).row; live = (slot_at slots j).live } in
      let low : i < length slots = omega (arith, l, made_len (length slots) f) in
      let here : IsRowOf types (slot_at slots i).row = own i (live_slot []) low in
      rw (made_at (length slots) f i d low) (elim (cases_Bool (row_at found i)) [
        | inl e ↦ rw e (row_typed sets (slot_at slots i).row here (found_fits found sets slots fit i e (omega (arith, low, long))))
        | inr e ↦ rw e here
      ])

  -- after a call that changes the slots where it is not refused
  pub typed_after : {E : Type 0} (result : Result (Unit {0}) E) (old new : SlotsView) {Done : Type 0} → AreTyped types old.slots → OnOk result Done → (Done → AreTyped types new.slots) → OnErr result (new ≡ old) → AreTyped types new.slots
  typed_after (Ok done) old new own changed after same = after changed
  typed_after (Err e) old new own changed after same = rw same own
