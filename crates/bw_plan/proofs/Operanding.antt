-- The value of an operand at each slot.
use Rattle.std.proofs.Common.{◌≡◌, ◌≤◌, ◌∙◌, ℕ, zero, suc, List, [], ◌∷◌, All, None, ap, arith, inl, inr, length, refl, sym}
use Rattle.std.proofs.lemmas.Bool.{cases_lt}
use Rattle.std.proofs.lemmas.List.{get_or_past, length-map}
use Rattle.bw_column.specs.Values as values
use Rattle.bw_model.specs.Store.{Row, value_at}
use Rattle.bw_table.specs.Slots.{Slot, live_slot, slot_at, slot_column}
use Rattle.bw_table.proofs.Across.{column_at}

-- a value of a row, as a column and as a condition spell it
pub one_value : (row : Row) (place : ℕ) → values.value_at row place ≡ value_at row place
one_value [] zero = refl
one_value [] (suc place) = refl
one_value (value ∷ row) zero = refl
one_value (value ∷ row) (suc place) = one_value row place

nowhere : (place : ℕ) → value_at [] place ≡ None
nowhere zero = refl
nowhere (suc place) = refl

pub column_length : (slots : List Slot) (k : ℕ) → length (slot_column slots k) ≡ length slots
column_length slots k = grind (arith, length-map)

pub column_value : (slots : List Slot) (k i : ℕ) → values.value_at (slot_column slots k) i ≡ value_at (slot_at slots i).row k
column_value slots k i = elim (cases_lt i (length slots)) [
  | inl h ↦ column_at slots k i h ∙ one_value (slot_at slots i).row k
  | inr h ↦
      get_or_past (slot_column slots k) i None (omega (arith, h, column_length slots k))
      ∙ sym (ap (λ (slot : Slot). value_at slot.row k) (get_or_past slots i (live_slot []) h) ∙ nowhere k)
]

-- a place past the last column
pub past_value : (slots : List Slot) (n k i : ℕ) → All (λ slot. length slot.row ≡ n) slots → n ≤ k → value_at (slot_at slots i).row k ≡ None
past_value slots n k i wide over = elim (cases_lt i (length slots)) [
  | inl h ↦
      let row = (slot_at slots i).row in
      let long : length row ≡ n = wide i (live_slot []) h in
      sym (one_value row k) ∙ get_or_past row k None (omega (arith, long, over))
  | inr h ↦ ap (λ (slot : Slot). value_at slot.row k) (get_or_past slots i (live_slot []) h) ∙ nowhere k
]
