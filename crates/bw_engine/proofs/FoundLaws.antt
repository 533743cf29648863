-- The rows of found slots, by their places and by the condition.
use Rattle.std.proofs.Common.{◌≡◌, ◌∙◌, ℕ, suc, ◌+◌, ◌<◌, ◌&&◌, Bool, true, false, List, [], ◌∷◌, count_by, get_or, if◌then◌else◌, length, map, Option, None, Some, refl, sym, ap, inl, inr, arith}
use Rattle.std.specs.Prelude.{cond}
use Rattle.std.specs.List.{filter}
use Rattle.std.proofs.lemmas.Bool.{cases_Bool}
use Rattle.std.proofs.lemmas.List.{length-map}
use Rattle.std.proofs.lemmas.List.Sums.{sum_by-cons}
use Rattle.bw_mask.specs.Masks.{MaskRows, len, row_at}
use Rattle.bw_mask.specs.Truth.{is_value}
use Rattle.bw_mask.specs.declared.truth_value.TruthValue.TheVariants.{True}
use Rattle.bw_mask.proofs.Bits.{and_true}
use Rattle.bw_column.specs.Comparisons.{AreTrueAt}
use Rattle.bw_table.specs.Slots.{Slot, slot_at}
use Rattle.bw_sql.specs.Rows.{joined}
use Rattle.bw_model.specs.Select.{shown}
use Rattle.bw_model.specs.Store.{Row, value_at}
use Rattle.bw_plan.specs.Operands.{truth_in}
use Rattle.bw_plan.specs.Plans.{Plan}
use Rattle.bw_engine.specs.Found.{is_found_by, rows_where}
use Rattle.bw_engine.specs.Stores.{AreFoundIn, rows_in, rows_of_slots}

-- the slots that are live, and whose rows pass
where_live : (test : ℕ → Bool) (passes : Row → Bool) (slots : List Slot) → ((i : ℕ) → i < length slots → test i ≡ ((slot_at slots i).live && passes (slot_at slots i).row)) → rows_where test (rows_of_slots slots) ≡ filter passes (rows_in slots)
where_live test passes [] same = refl
where_live test passes (slot ∷ slots) same =
    let rest : rows_where (λ i. test (suc i)) (rows_of_slots slots) ≡ filter passes (rows_in slots) = where_live (λ i. test (suc i)) passes slots (λ i h. same (suc i) (omega (arith, h))) in
    let here : test 0 ≡ (slot.live && passes slot.row) = same 0 (omega arith) in
    elim (cases_Bool slot.live) [
      | inl e ↦
          elim (cases_Bool (passes slot.row)) [
            | inl p ↦ rw (here, e, p) (ap (λ l. slot.row ∷ l) rest)
            | inr p ↦ rw (here, e, p) rest
          ]
      | inr e ↦ rw (here, e) rest
    ]

-- how many are in a mask
module _ {A : Type 0} where
  more_if : (b : Bool) (x : A) (rows : List A) → length (if b then x ∷ rows else rows) ≡ cond b 1 0 + length rows
  more_if true x rows = omega arith
  more_if false x rows = omega arith

  pub counted : (bits : List Bool) (rows : List A) → length bits ≡ length rows → count_by (λ b. b) bits ≡ length (rows_where (λ i. get_or bits i false) rows)
  counted [] [] same = refl
  counted [] (x ∷ rows) same = absurd (omega arith)
  counted (b ∷ bits) [] same = absurd (omega arith)
  counted (b ∷ bits) (x ∷ rows) same =
      omega (arith, sum_by-cons (λ c. cond c 1 0) b bits, more_if b x (rows_where (λ i. get_or bits i false) rows), counted bits rows (omega arith))

module _ (slots : List Slot) (plan : Option Plan) (found : MaskRows) (are : AreFoundIn slots plan found) where
  pub where_found : rows_where (row_at found) (rows_of_slots slots) ≡ filter (is_found_by plan) (rows_in slots)
  where_found = where_live (row_at found) (is_found_by plan) slots are.1

  pub found_count : count_by (λ row. row) found.rows ≡ length (filter (is_found_by plan) (rows_in slots))
  found_count = counted found.rows (rows_of_slots slots) (are.0 ∙ sym (length-map slots (λ (slot : Slot). slot.row))) ∙ ap length where_found

  pub found_shown : (places : List ℕ) → joined (map (λ row. map (λ place. shown (value_at row place)) places) (rows_where (row_at found) (rows_of_slots slots))) ≡ joined (map (λ row. map (λ place. shown (value_at row place)) places) (filter (is_found_by plan) (rows_in slots)))
  found_shown places = ap (λ rows. joined (map (λ row. map (λ place. shown (value_at row place)) places) rows)) where_found

-- the mask of the live slots
module _ (slots : List Slot) (live : MaskRows) (long : len live ≡ length slots) (each : (i : ℕ) → i < length slots → row_at live i ≡ (slot_at slots i).live) where
  pub live_found : AreFoundIn slots None live
  live_found = (long, λ i within. each i within ∙ sym (and_true (slot_at slots i).live))

  pub true_found : (plan : Plan) (mask : MaskRows) → AreTrueAt live (truth_in plan slots) mask → AreFoundIn slots (Some plan) mask
  true_found plan mask are = (
    are.len ∙ long,
    λ i within. are.rows i ∙ ap (λ b. b && is_value (truth_in plan slots i) True) (each i within),
  )
