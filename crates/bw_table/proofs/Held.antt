-- The values of a table's columns are what their layouts hold, and stay so.
use Rattle.std.proofs.Common.{List, None, Option, Some, [], arith, get_or, inl, inr, length, refl, subst, ℕ, ℤ, ◌∷◌, ◌==◌, ◌<◌, ◌≡◌}
use Rattle.std.specs.List.{All, AllZip}
use Rattle.std.proofs.lemmas.Bool.{cases_Bool, eqb-true}
use Rattle.std.proofs.lemmas.List.{get_or_default}
use Rattle.std.proofs.lemmas.List.Elements.{All-head, All-map, All-tail}
use Rattle.bw_mask.specs.Masks.{MaskRows, row_at}
use Rattle.bw_code.proofs.Lists.{made_at, made_len}
use Rattle.bw_code.proofs.Types.{zipped_at}
use Rattle.bw_column.proofs.Chosen.{holds_any}
use Rattle.bw_column.proofs.Ordered.{chosen_at}
use Rattle.bw_column.specs.Columns.{ColumnView}
use Rattle.bw_column.specs.Copies.{IsMasked}
use Rattle.bw_column.specs.Places.{chosen_values, overwritten, put_at, rank}
use Rattle.bw_column.specs.Values.{IsNullOrHeld, value_at}
use Rattle.bw_table.specs.Changes.{set_of}
use Rattle.bw_table.specs.Halves.{AllKept}
use Rattle.bw_table.specs.Sets.{IsSet, gathered}
use Rattle.bw_table.specs.Slots.{Slot, column_of, slot_column}
use Rattle.bw_table.specs.declared.setting.SetTo.{SetTo}

-- of rows that agree with a list place by place, each column agrees with its element
module _ {X : Type 0} (R : X → Option ℤ → Type 0) (xs : List X) where
  pub all_down : (rows : List (List (Option ℤ))) → All (AllZip R xs) rows → (k : ℕ) (d : X) → k < length xs → All (R (get_or xs k d)) (column_of rows k)
  all_down rows all k d low = All-map (R (get_or xs k d)) (λ row. value_at row k) rows (λ i e l. zipped_at R xs (get_or rows i e) k d None (all i e l) low)

  pub slots_down : (slots : List Slot) → All (λ slot. AllZip R xs slot.row) slots → (k : ℕ) (d : X) → k < length xs → All (R (get_or xs k d)) (slot_column slots k)
  slots_down slots all = all_down _ (All-map (AllZip R xs) (λ (slot : Slot). slot.row) slots all)

abbrev pub AreHeld : List ColumnView → Type 0
AreHeld columns = All (λ column. All (IsNullOrHeld column.layout) column.values) columns

pub held_kept : (new old : List ColumnView) → AllKept new old → AreHeld old → AreHeld new
held_kept new old kept all k d h = rw ((kept.each k d).values, (kept.each k d).layout) (all k d (omega (arith, h, kept.count)))

-- values put in the places of a mask
pub all_overwritten : (P : Option ℤ → Type 0) → P None → (found : MaskRows) (values old : List (Option ℤ)) → All P values → All P old → All P (overwritten found values old)
all_overwritten P none found values old new own k d h =
    let low : k < length old = omega (arith, h, made_len (length old) (put_at found values old)) in
    rw (made_at (length old) (put_at found values old) k d low) (elim (cases_Bool (row_at found k)) [
      | inl e ↦ rw e (holds_any P values none new (rank found k))
      | inr e ↦ rw e (holds_any P old none own k)
    ])

-- values that are null outside of a mask
pub all_in_mask : (P : Option ℤ → Type 0) → P None → (mask : MaskRows) (values : List (Option ℤ)) → IsMasked mask values → All P (chosen_values mask values) → All P values
all_in_mask P none mask values is all k d h =
    rw (get_or_default values k d None h) (elim (cases_Bool (row_at mask k)) [
      | inl e ↦ subst P (chosen_at mask values k e) (holds_any P (chosen_values mask values) none all (rank mask k))
      | inr e ↦ rw (is.null k e) none
    ])

-- what a column is set to is one of the sets
pub set_is_one : (P : ℕ × SetTo → Type 0) (sets : List (ℕ × SetTo)) → All P sets → (k : ℕ) (to : SetTo) → set_of sets k ≡ Some to → P (k, to)
set_is_one P [] all k to is = absurd cc
set_is_one P (set ∷ sets) all k to is =
    elim (cases_Bool (set.0 == k)) [
      | inl e ↦
          let found : Some set.1 ≡ Some to = rw e at is in
          let same : set.1 ≡ to = cc in
          let here : set.0 ≡ k = eqb-true set.0 k e in
          subst (λ t. P (k, t)) same (subst (λ j. P (j, set.1)) here (All-head P set sets all))
      | inr e ↦
          let rest : set_of sets k ≡ Some to = rw e at is in
          set_is_one P sets (All-tail P set sets all) k to rest
    ]

-- a column that is set, or not
pub held_set : (columns : List ColumnView) (found : MaskRows) (to : Option SetTo) (new old : ColumnView) → ((t : SetTo) → to ≡ Some t → All (IsNullOrHeld old.layout) (gathered columns found t))
    → IsSet columns found to new old → All (IsNullOrHeld old.layout) old.values → All (IsNullOrHeld new.layout) new.values
held_set columns found None new old sets is own = rw (is.values, is.layout) own
held_set columns found (Some to) new old sets is own = rw (is.values_are, is.layout) (all_overwritten (IsNullOrHeld old.layout) tt found (gathered columns found to) old.values (sets to refl) own)
