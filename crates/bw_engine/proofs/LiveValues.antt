-- The values of a column in the live slots, with NULL for each dead one.
use Rattle.std.proofs.Common.{◌≡◌, ◌∙◌, ℕ, suc, ◌+◌, ◌<◌, ◌≤◌, Bool, List, [], ◌∷◌, None, Some, ap, arith, drop, get_or, if◌then◌else◌, inl, inr, length, map, refl, sym, take}
use Rattle.std.specs.List.{filter, range_with_len}
use Rattle.std.proofs.lemmas.Bool.{cases_Bool}
use Rattle.std.proofs.lemmas.List.{ext_get_or, get_or-drop, get_or-map, get_or-take, length-drop, length-map, length-take-le}
use Rattle.bw_cells.specs.Known.{known}
use Rattle.bw_code.proofs.Lists.{made_at, made_is, made_len}
use Rattle.bw_column.specs.Copies.{masked}
use Rattle.bw_column.specs.Places.{chosen_values}
use Rattle.bw_column.specs.Values as values
use Rattle.bw_mask.specs.Masks.{MaskRows, len, row_at}
use Rattle.bw_table.specs.Slots.{Slot, live_slot, slot_at, slot_column}
use Rattle.bw_model.specs.Filing.{column_of}
use Rattle.bw_model.specs.Store.{Value, value_at}
use Rattle.bw_engine.specs.Stores.{rows_in}
use Rattle.bw_engine.proofs.SetRows.{same_value}

-- the value of a slot in column k, or NULL where it is dead
abbrev pub alive : ℕ → Slot → Value
alive k slot = if slot.live then value_at slot.row k else None

known_next : (v : Value) (xs ys : List Value) → known xs ≡ known ys → known (v ∷ xs) ≡ known (v ∷ ys)
known_next None xs ys same = same
known_next (Some x) xs ys same = ap (λ l. x ∷ l) same

known_alive : (k : ℕ) (slots : List Slot) → known (map (alive k) slots) ≡ known (column_of (rows_in slots) k)
known_alive k [] = refl
known_alive k (slot ∷ slots) =
    elim (cases_Bool slot.live) [
      | inl e ↦ rw e (known_next (value_at slot.row k) (map (alive k) slots) (column_of (rows_in slots) k) (known_alive k slots))
      | inr e ↦ rw e (known_alive k slots)
    ]

-- the values at the indexes that pass, where those of the live slots do
chosen_from : (k : ℕ) (slots : List Slot) (start : ℕ) (test : ℕ → Bool) (value : ℕ → Value) → ((i : ℕ) → i < length slots → test (start + i) ≡ (slot_at slots i).live) → ((i : ℕ) → i < length slots → value (start + i) ≡ value_at (slot_at slots i).row k)
    → map value (filter test (range_with_len start (length slots))) ≡ column_of (rows_in slots) k
chosen_from k [] start test value tests are = refl
chosen_from k (slot ∷ slots) start test value tests are =
    let first : start + 0 ≡ start = omega arith in
    let next : (i : ℕ) → start + 1 + i ≡ start + suc i = λ i. omega arith in
    let live : test start ≡ slot.live = ap test (sym first) ∙ tests 0 (omega arith) in
    let here : value start ≡ value_at slot.row k = ap value (sym first) ∙ are 0 (omega arith) in
    let rest : map value (filter test (range_with_len (start + 1) (length slots))) ≡ column_of (rows_in slots) k =
    chosen_from k slots (start + 1) test value (λ i h. ap test (next i) ∙ tests (suc i) (omega (arith, h))) (λ i h. ap value (next i) ∙ are (suc i) (omega (arith, h))) in
    elim (cases_Bool slot.live) [
      | inl e ↦ rw (live, e) (λ j. here j ∷ rest j)
      | inr e ↦ rw (live, e) rest
    ]

module _ (slots : List Slot) (live : MaskRows) (k : ℕ) (column : List Value) (is : column ≡ slot_column slots k) (each : (i : ℕ) → i < length slots → row_at live i ≡ (slot_at slots i).live) where
  column_long : length column ≡ length slots
  column_long = ap length is ∙ length-map (map (λ (slot : Slot). slot.row) slots) (λ row. values.value_at row k) ∙ length-map slots (λ (slot : Slot). slot.row)

  value_here : (i : ℕ) → i < length slots → values.value_at column i ≡ value_at (slot_at slots i).row k
  value_here i low =
      ap (λ l. values.value_at l i) is
      ∙ get_or-map (λ row. values.value_at row k) (map (λ (slot : Slot). slot.row) slots) i [] None (omega (arith, low, length-map slots (λ (slot : Slot). slot.row)))
      ∙ ap (λ row. values.value_at row k) (get_or-map (λ (slot : Slot). slot.row) slots i (live_slot []) [] low)
      ∙ same_value (slot_at slots i).row k

  masked_alive : masked live column ≡ map (alive k) slots
  masked_alive =
      sym (made_is (length column) (λ i. if row_at live i then values.value_at column i else None) (map (alive k) slots) None (length-map slots (alive k) ∙ sym column_long)
      (λ i h.
      let low : i < length slots = omega (arith, h, column_long) in
      get_or-map (alive k) slots i (live_slot []) None low
      ∙ sym (λ j. if each i low j then value_here i low j else None)))

  pub live_known : known (masked live column) ≡ known (column_of (rows_in slots) k)
  live_known = ap known masked_alive ∙ known_alive k slots

  pub live_chosen : len live ≡ length slots → chosen_values live column ≡ column_of (rows_in slots) k
  live_chosen long =
      ap (λ n. map (values.value_at column) (filter (row_at live) (range_with_len 0 n))) long
      ∙ chosen_from k slots 0 (row_at live) (values.value_at column) (λ i h. let e : 0 + i ≡ i = omega arith in ap (row_at live) e ∙ each i h) (λ i h. let e : 0 + i ≡ i = omega arith in ap (values.value_at column) e ∙ value_here i h)

pub masked_long : (live : MaskRows) (cells : List Value) → length (masked live cells) ≡ length cells
masked_long live cells = made_len (length cells) (λ i. if row_at live i then values.value_at cells i else None)

pub run_long : (n at : ℕ) (xs : List Value) → at + n ≤ length xs → length (take n (drop at xs)) ≡ n
run_long n at xs low = length-take-le n (drop at xs) (omega (arith, low, length-drop at xs))

-- a run of them, with NULL put in a run of the cells for each dead slot
pub masked_run : (live : MaskRows) (cells out old : List Value) (at n : ℕ) → at + n ≤ length cells → old ≡ take n (drop at cells) → length out ≡ length old
    → ((i : ℕ) → i < length old → get_or out i None ≡ (if row_at live (at + i) then get_or old i None else None)) → out ≡ take n (drop at (masked live cells))
masked_run live cells out old at n low is same each =
    let all = masked_long live cells in
    let long : length old ≡ n = ap length is ∙ run_long n at cells low in
    let other = run_long n at (masked live cells) (omega (arith, low, all)) in
    ext_get_or None out (take n (drop at (masked live cells))) (same ∙ long ∙ sym other) (λ i h.
    let here : i < n = omega (arith, h, same, long) in
    each i (omega (arith, h, same))
    ∙ (λ j. if row_at live (at + i) then (ap (λ l. get_or l i None) is ∙ get_or-take n (drop at cells) i None here ∙ get_or-drop at cells i None) j else None)
    ∙ sym (get_or-take n (drop at (masked live cells)) i None here ∙ get_or-drop at (masked live cells) i None ∙ made_at (length cells) (λ i. if row_at live i then values.value_at cells i else None) (at + i) None (omega (arith, low, here))))
