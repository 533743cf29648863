-- A table that is made of whole columns, or without slots, is new.
use Rattle.std.proofs.Common.{◌≡◌, ◌∙◌, ℕ, ◌<◌, List, [], get_or, length, map, None, sym, ap, subst, arith}
use Rattle.std.specs.List.{All, range_with_len}
use Rattle.std.proofs.lemmas.List.{get_or-map}
use Rattle.bw_code.proofs.Lists.{made_is}
use Rattle.bw_column.specs.Values.{value_at}
use Rattle.bw_table.specs.Opening.{AreFitted, IsFitted, row_across, rows_across}
use Rattle.bw_table.specs.Tables.{AreFirst}
use Rattle.bw_table.specs.Slots.{live_slot, slot_column}
use Rattle.bw_table.proofs.Places.{map_twice}
use Rattle.bw_model.specs.Store.{Row, Value}
use Rattle.bw_engine.specs.StoredChanges.{IsNew}
use Rattle.bw_engine.specs.Stores.{StoredTable, rows_in}
use Rattle.bw_engine.proofs.LiveRows.{new_rows}

-- columns that are read across and then downward
module _ (rows : ℕ) (columns : List (List Value)) (long : All (λ cells. length cells ≡ rows) columns) where
  column_back : (k : ℕ) → k < length columns → slot_column (map live_slot (rows_across rows columns)) k ≡ get_or columns k []
  column_back k within =
      ap (map (λ row. value_at row k)) (map_twice (λ slot. slot.row) live_slot (rows_across rows columns))
      ∙ map_twice (λ row. value_at row k) (λ (row : Row). row) (rows_across rows columns)
      ∙ map_twice (λ row. value_at row k) (row_across columns) (range_with_len 0 rows)
      ∙ sym (made_is rows (λ i. value_at (row_across columns i) k) (get_or columns k []) None (long k [] within)
      (λ i there. sym (get_or-map (λ (cells : List Value). value_at cells i) columns k [] None within)))

pub opened_new : (t : StoredTable) (rows : ℕ) (columns : List (List Value)) → length columns ≡ length t.headers → All (λ cells. length cells ≡ rows) columns → t.slots ≡ map live_slot (rows_across rows columns)
    → AreFitted t.headers columns t.encodings → IsNew t
opened_new t rows columns wide long slots fitted = record {
  live = slots ∙ ap (map live_slot) (sym (ap rows_in slots ∙ new_rows (rows_across rows columns)));
  count = fitted.count;
  fitted = λ k h e l.
      subst (λ cells. IsFitted (get_or t.headers k h) cells (get_or t.encodings k e)) (sym (ap (λ s. slot_column s k) slots ∙ column_back rows columns long k (omega (arith, l, wide)))) (fitted.each k h e l);
}

pub created_new : (t : StoredTable) → t.slots ≡ [] → AreFirst t.headers t.encodings → IsNew t
created_new t slots fitted = record {
  live = slots ∙ ap (λ s. map live_slot (rows_in s)) (sym slots);
  count = fitted.count;
  fitted = λ k h e l. subst (λ cells. IsFitted (get_or t.headers k h) cells (get_or t.encodings k e)) (sym (ap (λ s. slot_column s k) slots)) (fitted.each k h e l);
}
