-- The values of a column in the found slots, in runs.
use Rattle.std.proofs.Common.{Bool, List, [], ap, arith, cond, count_by, false, filter, get_or, if◌then◌else◌, inl, inr, is_some, length, map, min, not, refl, suc, sym, true, zero, ℕ, ◌&&◌, ◌*◌, ◌++◌, ◌+◌, ◌-◌, ◌/◌, ◌<◌, ◌||◌, ◌∙◌, ◌∷◌, ◌≡◌, ◌≤◌}
use Rattle.std.specs.List.{list_all, list_any, range_with_len}
use Rattle.std.proofs.lemmas.Bool.{cases_eq, cases_lt, true≢false}
use Rattle.std.proofs.lemmas.List.{length-map}
use Rattle.std.proofs.lemmas.List.FromFn.{get_or-map-range_with_len, length-map-range_with_len}
use Rattle.bw_mask.specs.Masks.{MaskRows, len, row_at}
use Rattle.bw_column.specs.Values as columns
use Rattle.bw_aggregate.proofs.Counting.{count_cons}
use Rattle.bw_cells.specs.SetFunctions.{known}
use Rattle.bw_groups.specs.Runs.{values_in}
use Rattle.bw_table.specs.Slots.{Slot, slot_at}
use Rattle.bw_model.specs.Store.{Value, value_at}
use Rattle.bw_engine.specs.Found.{rows_where}
use Rattle.bw_engine.specs.GroupLines.{column_in}
use Rattle.bw_engine.specs.Runs.{found_runs, lines_from, slot_line}
use Rattle.bw_engine.specs.Stores.{rows_of_slots}
use Rattle.bw_engine.proofs.GroupShows.{joined_singles, rows_few}
use Rattle.bw_engine.proofs.RunLaws.{in_list, lines_join, lines_where, one_line, values_few}

module _ (place : ℕ) (slots : List Slot) (passes : ℕ → Bool) where
  abbrev line : ℕ → List Value
  line = slot_line (place ∷ []) slots

  abbrev run : ℕ → List Value
  run q = lines_from line passes (64 * q) (min (length slots - 64 * q) 64)

  no_lines : (n a : ℕ) → n ≡ 0 → [] ≡ lines_from line passes a n
  no_lines n a is = ap (lines_from line passes a) (sym is)

  -- a run, and the lines after it
  run_then : (a : ℕ) → run a ++ lines_from line passes (64 * (a + 1)) (length slots - 64 * (a + 1)) ≡ lines_from line passes (64 * a) (length slots - 64 * a)
  run_then a =
      ap (λ l. run a ++ l) next
      ∙ sym (lines_join line passes (min (length slots - 64 * a) 64) (length slots - 64 * (a + 1)) (64 * a) (length slots - 64 * a) (64 * a + min (length slots - 64 * a) 64) (omega arith) refl)
    where
      next : lines_from line passes (64 * (a + 1)) (length slots - 64 * (a + 1)) ≡ lines_from line passes (64 * a + min (length slots - 64 * a) 64) (length slots - 64 * (a + 1))
      next =
          elim (cases_lt (64 * (a + 1)) (length slots)) [
            | inl more ↦ ap (λ b. lines_from line passes b (length slots - 64 * (a + 1))) (omega (arith, more))
            | inr last ↦
                let none : length slots - 64 * (a + 1) ≡ 0 = omega (arith, last) in
                sym (no_lines (length slots - 64 * (a + 1)) (64 * (a + 1)) none) ∙ no_lines (length slots - 64 * (a + 1)) (64 * a + min (length slots - 64 * a) 64) none
          ]

  runs_from : (n a : ℕ) → length slots ≤ 64 * (a + n) → values_in (map run (range_with_len a n)) ≡ lines_from line passes (64 * a) (length slots - 64 * a)
  runs_from zero a le = no_lines (length slots - 64 * a) (64 * a) (omega (arith, le))
  runs_from (suc n) a le = ap (λ l. run a ++ l) (runs_from n (a + 1) (omega (arith, le))) ∙ run_then a

  -- all of them are those of the slots that pass
  pub runs_lines : values_in (found_runs place slots passes) ≡ lines_from line passes 0 (length slots)
  runs_lines =
      let whole : length slots - 64 * 0 ≡ length slots = omega arith in
      runs_from ((length slots + 63) / 64) 0 (omega arith) ∙ ap (lines_from line passes (64 * 0)) whole

  pub runs_column : values_in (found_runs place slots passes) ≡ column_in (rows_where passes (rows_of_slots slots)) place
  runs_column = runs_lines ∙ lines_where (place ∷ []) passes slots ∙ joined_singles (rows_where passes (rows_of_slots slots)) place

  pub runs_long : length (values_in (found_runs place slots passes)) ≡ length (rows_where passes (rows_of_slots slots))
  runs_long = ap length runs_column ∙ length-map (rows_where passes (rows_of_slots slots)) (λ row. value_at row place)

  pub runs_few : length (values_in (found_runs place slots passes)) ≤ length slots
  runs_few =
      let few = rows_few passes (rows_of_slots slots) in
      let count : length (rows_of_slots slots) ≡ length slots = length-map slots (λ slot. slot.row) in
      omega (arith, runs_long, few, count)

  pub runs_count : length (found_runs place slots passes) ≡ (length slots + 63) / 64
  runs_count = length-map-range_with_len run 0 ((length slots + 63) / 64)

  pub run_at : (q : ℕ) → q < length (found_runs place slots passes) → get_or (found_runs place slots passes) q [] ≡ run q
  run_at q low = get_or-map-range_with_len run 0 ((length slots + 63) / 64) q q [] (omega (arith, low, runs_count)) (omega arith)

  pub run_few : (q : ℕ) → length (run q) ≤ 64
  run_few q = let few = values_few place slots passes (min (length slots - 64 * q) 64) (64 * q) in omega (arith, few)

  abbrev value : ℕ → Value
  value i = value_at (slot_at slots i).row place

  -- whether all of the values are there
  lines_known : (n a : ℕ) → ((i : ℕ) → passes i ≡ true → is_some (value i) ≡ true) → list_all is_some (lines_from line passes a n) ≡ true
  lines_known zero a known = refl
  lines_known (suc n) a known =
      ap (list_all is_some) (one_line (passes a) line a (filter passes (range_with_len (a + 1) n)))
      ∙ by (passes a) (known a) (lines_known n (a + 1) known)
    where
      by : (b : Bool) → (b ≡ true → is_some (value a) ≡ true) → list_all is_some (lines_from line passes (a + 1) n) ≡ true → list_all is_some ((if b then line a else []) ++ lines_from line passes (a + 1) n) ≡ true
      by true here rest = ap (λ b. b && list_all is_some (lines_from line passes (a + 1) n)) (here refl) ∙ rest
      by false here rest = rest

  and_false : (b : Bool) → (b && false) ≡ false
  and_false true = refl
  and_false false = refl

  lines_null : (n a i : ℕ) → a ≤ i → i < a + n → passes i ≡ true → is_some (value i) ≡ false → list_all is_some (lines_from line passes a n) ≡ false
  lines_null zero a i le low there null = absurd (omega (arith, le, low))
  lines_null (suc n) a i le low there null =
      ap (list_all is_some) (one_line (passes a) line a (filter passes (range_with_len (a + 1) n)))
      ∙ elim (cases_eq i a) [
        | inl same ↦ here same
        | inr other ↦ rest (passes a) (lines_null n (a + 1) i (omega (arith, le, other)) (omega (arith, low)) there null)
      ]
    where
      here : i ≡ a → list_all is_some ((if passes a then line a else []) ++ lines_from line passes (a + 1) n) ≡ false
      here same =
          ap (λ (b : Bool). list_all is_some ((if b then line a else []) ++ lines_from line passes (a + 1) n)) (ap passes (sym same) ∙ there)
          ∙ ap (λ b. b && list_all is_some (lines_from line passes (a + 1) n)) (ap (λ k. is_some (value k)) (sym same) ∙ null)

      rest : (b : Bool) → list_all is_some (lines_from line passes (a + 1) n) ≡ false → list_all is_some ((if b then line a else []) ++ lines_from line passes (a + 1) n) ≡ false
      rest true h = ap (λ b. is_some (value a) && b) h ∙ and_false (is_some (value a))
      rest false h = h

  pub runs_known : ((i : ℕ) → passes i ≡ true → is_some (value i) ≡ true) → true ≡ list_all is_some (values_in (found_runs place slots passes))
  runs_known known = sym (ap (list_all is_some) runs_lines ∙ lines_known (length slots) 0 known)

  pub runs_null : (i : ℕ) → i < length slots → passes i ≡ true → is_some (value i) ≡ false → false ≡ list_all is_some (values_in (found_runs place slots passes))
  runs_null i low there null = sym (ap (list_all is_some) runs_lines ∙ lines_null (length slots) 0 i (omega arith) (omega (arith, low)) there null)

-- as many rows are found as places pass
where_count : {A : Type 0} (tests : List Bool) (rows : List A) → length tests ≡ length rows → length (rows_where (λ i. get_or tests i false) rows) ≡ count_by (λ test. test) tests
where_count [] [] same = refl
where_count [] (row ∷ rows) same = absurd (omega (arith, same))
where_count (test ∷ tests) [] same = absurd (omega (arith, same))
where_count (test ∷ tests) (row ∷ rows) same = by test (count_cons (λ t. t) test tests) (where_count tests rows (omega (arith, same)))
  where
    by : (b : Bool) → count_by (λ t. t) (test ∷ tests) ≡ cond b 1 0 + count_by (λ t. t) tests → length (rows_where (λ i. get_or tests i false) rows) ≡ count_by (λ t. t) tests
        → length (if b then row ∷ rows_where (λ i. get_or tests i false) rows else rows_where (λ i. get_or tests i false) rows) ≡ count_by (λ t. t) (test ∷ tests)
    by true one rest = omega (arith, one, rest)
    by false one rest = omega (arith, one, rest)

pub runs_counted : (place : ℕ) (slots : List Slot) (found : MaskRows) → len found ≡ length slots → length (values_in (found_runs place slots (row_at found))) ≡ count_by (λ row. row) found.rows
runs_counted place slots found all =
    let rows : length (rows_of_slots slots) ≡ length slots = length-map slots (λ slot. slot.row) in
    runs_long place slots (row_at found) ∙ where_count found.rows (rows_of_slots slots) (omega (arith, all, rows))

-- one that is true
any_at : (tests : List Bool) → list_any (λ test. test) tests ≡ true → (i : ℕ) × (i < length tests) × (get_or tests i false ≡ true)
any_at [] some = absurd (true≢false (sym some))
any_at (test ∷ tests) some = by test some (any_at tests)
  where
    by : (b : Bool) → (b || list_any (λ t. t) tests) ≡ true → (list_any (λ t. t) tests ≡ true → (i : ℕ) × (i < length tests) × (get_or tests i false ≡ true)) → (i : ℕ) × (i < length (b ∷ tests)) × (get_or (b ∷ tests) i false ≡ true)
    by true h next = (0, omega arith, refl)
    by false h next = let rest = next h in (suc rest.0, omega (arith, rest.1), rest.2)

left_out : (a b : Bool) → (a && not b) ≡ false → a ≡ true → b ≡ true
left_out true true h is = refl
left_out true false h is = absurd (true≢false h)
left_out false b h is = absurd (true≢false (sym is))

left_in : (a b : Bool) → (a && not b) ≡ true → (a ≡ true) × (b ≡ false)
left_in true true h = absurd (true≢false (sym h))
left_in true false h = (refl, refl)
left_in false b h = absurd (true≢false (sym h))

-- where no found slot has a null, all values are there, and else not
pub known_is : (place : ℕ) (slots : List Slot) (found there nulls : MaskRows) (values : List Value) (any : Bool) → len found ≡ length slots → length values ≡ length slots → ((i : ℕ) → i < length values → columns.value_at values i ≡ value_at (slot_at slots i).row place)
    → len there ≡ length values → ((i : ℕ) → row_at there i ≡ is_some (columns.value_at values i)) → ((i : ℕ) → row_at nulls i ≡ (row_at found i && not (row_at there i)))
    → any ≡ list_any (λ row. row) nulls.rows → (any ≡ false → (i : ℕ) → row_at nulls i ≡ false) → not any ≡ list_all is_some (values_in (found_runs place slots (row_at found)))
known_is place slots found there nulls values false all long are wide rows both some none =
    runs_known place slots (row_at found) (λ i here.
    let is = left_out (row_at found i) (row_at there i) (sym (both i) ∙ none refl i) here in
    let low : i < length values = omega (arith, in_list there.rows i is, wide) in
    ap is_some (sym (are i low)) ∙ sym (rows i) ∙ is)
known_is place slots found there nulls values true all long are wide rows both some none =
    let at = any_at nulls.rows (sym some) in
    let is = left_in (row_at found at.0) (row_at there at.0) (sym (both at.0) ∙ at.2) in
    by at.0 is.0 is.1
  where
    by : (i : ℕ) → row_at found i ≡ true → row_at there i ≡ false → false ≡ list_all is_some (values_in (found_runs place slots (row_at found)))
    by i here gone =
        let inside = in_list found.rows i here in
        let low : i < length slots = omega (arith, inside, all) in
        runs_null place slots (row_at found) i low here (ap is_some (sym (are i (omega (arith, low, long)))) ∙ sym (rows i) ∙ gone)
