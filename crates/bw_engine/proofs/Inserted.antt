-- The rows of an INSERT, flat and as the table takes them.
use Rattle.std.proofs.Common.{◌≡◌, ◌∙◌, ℕ, ◌+◌, ◌*◌, ◌/◌, ◌<◌, ◌≤◌, List, [], ◌∷◌, ◌++◌, ap, arith, drop, get_or, length, map, position, refl, suc, sym, take, zero}
use Rattle.std.specs.List.{All}
use Rattle.std.specs.Str.{bytes_eq}
use Rattle.std.proofs.lemmas.List.{drop-drop, drop_at, length-map, take_at}
use Rattle.std.proofs.lemmas.List.Elements.{All-head, All-tail}
use Rattle.bw_code.proofs.Lists.{made_is}
use Rattle.bw_table.specs.Rows.{AreWholeRows, row_from, rows_from}
use Rattle.bw_table.specs.Slots.{Slot, live_slots, slot_limit}
use Rattle.bw_sql.specs.Rows.{joined}
use Rattle.bw_model.specs.Insert.{row_for}
use Rattle.bw_model.specs.Store.{Header, Row, Value, row_limit, value_from}
use Rattle.bw_model.proofs.Lines.{All-map, count-of, length-joined, length-joined_map}
use Rattle.bw_engine.specs.Stores.{rows_in}

-- rows of one width, cut again
module _ {A : Type 0} (w : ℕ) where
  cut : (rows : List (List A)) (i : ℕ) → i < length rows → All (λ row. length row ≡ w) rows → take w (drop (i * w) (joined rows)) ≡ get_or rows i []
  cut [] i h all = absurd (omega (arith, h))
  cut (row ∷ rows) zero h all =
      let none : 0 * w ≡ 0 = omega arith in
      ap (λ n. take w (drop n (row ++ joined rows))) none ∙ ap (take w) (drop_none (row ++ joined rows)) ∙ take_at row (joined rows) w (All-head (λ r. length r ≡ w) row rows all)
    where
      drop_none : (xs : List A) → drop 0 xs ≡ xs
      drop_none [] = refl
      drop_none (x ∷ xs) = refl
  cut (row ∷ rows) (suc i) h all =
      let more : suc i * w ≡ w + i * w = omega arith in
      ap (λ n. take w (drop n (row ++ joined rows))) more
      ∙ ap (take w) (sym (drop-drop (i * w) w (row ++ joined rows)) ∙ ap (drop (i * w)) (drop_at row (joined rows) w (All-head (λ r. length r ≡ w) row rows all)))
      ∙ cut rows i (omega (arith, h)) (All-tail (λ r. length r ≡ w) row rows all)

  pub rows_again : (rows : List (List A)) → 0 < w → All (λ row. length row ≡ w) rows → rows_from w (joined rows) ≡ rows
  rows_again rows some all =
      let count : length (joined rows) / w ≡ length rows = count-of w (length rows) (joined rows) some (length-joined w rows all) in
      sym (made_is (length (joined rows) / w) (row_from w (joined rows)) rows [] (sym count) (λ i h. sym (cut rows i (omega (arith, h, count)) all)))

module _ (headers : List Header) (list : List (List ℕ)) where
  pub rows_wide : (n : ℕ) (rows : List Row) → n ≡ length headers → All (λ row. length row ≡ n) (map (row_for headers list) rows)
  rows_wide n rows same = All-map (row_for headers list) n rows (λ row. length-map headers (λ h. value_from row (position (bytes_eq h.name) list)) ∙ sym same)

  pub whole_cells : (n : ℕ) (rows : List Row) (cells : List Value) → n ≡ length headers → 0 < n → cells ≡ joined (map (row_for headers list) rows) → AreWholeRows n cells
  whole_cells n rows cells same some is = record {
    some = some;
    count = length rows;
    whole = ap length is ∙ length-joined_map (row_for headers list) n rows (λ row. length-map headers (λ h. value_from row (position (bytes_eq h.name) list)) ∙ sym same);
  }

  pub cells_rows : (n : ℕ) (rows : List Row) (cells : List Value) → n ≡ length headers → 0 < n → cells ≡ joined (map (row_for headers list) rows) → rows_from n cells ≡ map (row_for headers list) rows
  cells_rows n rows cells same some is = ap (rows_from n) is ∙ rows_again n (map (row_for headers list) rows) some (rows_wide n rows same)

-- as many rows as live slots
pub row_count : (slots : List Slot) → length (live_slots slots) ≡ length (rows_in slots)
row_count slots = sym (length-map (live_slots slots) (λ (slot : Slot). slot.row))

-- what has room isn't full
pub not_full : (slots : List Slot) (more : ℕ) → length (rows_in slots) + more ≤ row_limit → slot_limit < length (live_slots slots) + more → ⊥
not_full slots more room full = omega (arith, room, full, row_count slots)
