-- The columns that a SAVE writes are those of the table's rows, and what it answers by its tests.
use Rattle.std.proofs.Common.{◌≡◌, ◌∙◌, ℕ, ◌+◌, ◌<◌, ◌≤◌, Bool, if◌then◌else◌, List, [], ◌∷◌, ◌++◌, get_or, length, map, take, None, Some, option_map, Result, Ok, Err, IsErrAnd, inl, inr, refl, sym, ap, subst, arith}
use Rattle.std.specs.List.{All, AllZip, filter, range_with_len}
use Rattle.std.specs.Map.{lookup}
use Rattle.std.specs.Str.{bytes_eq}
use Rattle.std.proofs.lemmas.Bool.{cases_Bool, le-ltb, lt-ltb}
use Rattle.std.proofs.lemmas.List.{length-map, take_more}
use Rattle.std.proofs.lemmas.Slice.Zip.{all_zipped_more}
use Rattle.std.proofs.lemmas.List.Elements.{All-cons, All-head, All-nil, All-tail}
use Rattle.std.proofs.lemmas.List.FromFn.{length-map-range_with_len, map-range_with_len_more}
use Rattle.bw_mask.specs.Masks.{MaskRows, len, row_at}
use Rattle.bw_column.specs.Values as values
use Rattle.bw_code.specs.Types.{IsTyped}
use Rattle.bw_file.specs.Format.{SpelledBy}
use Rattle.bw_file.specs.declared.version.Version.TheVariants.{Second}
use Rattle.bw_file.specs.Table as file
use Rattle.bw_table.specs.Slots.{Slot, live_slots, slot_at, slot_column}
use Rattle.bw_sql.specs.Rows.{joined}
use Rattle.bw_sql.specs.Tree.{StatementTree, save}
use Rattle.bw_model.specs.Filing.{HoldsBy, column_of, file_limit, filed, filed_length}
use Rattle.bw_model.specs.Refusals.{first_that_holds, over, refused_early, save_tests}
use Rattle.bw_model.specs.Store.{Header, Row, Store, Value, table_of, value_at}
use Rattle.bw_model.specs.declared.refusal.Refusal.{Refusal}
use Rattle.bw_model.specs.declared.refusal.Refusal.TheVariants.{FileTooLarge, OutOfMemory}
use Rattle.bw_model.proofs.Lines.{All-map}
use Rattle.bw_model.proofs.Names.{map-push}
use Rattle.bw_plan.proofs.Operanding.{one_value}
use Rattle.bw_plan.proofs.Tests.{no_test, this_test}
use Rattle.bw_engine.specs.Files.{SavesOr}
use Rattle.bw_engine.specs.Found.{is_found_by, rows_where}
use Rattle.bw_engine.specs.Saving.{saved_cells}
use Rattle.bw_engine.specs.Stores.{Stored, StoredTable, rows_in, rows_of_slots, store_of, table_in}
use Rattle.bw_engine.specs.declared.outcome.Saving.{Saving}
use Rattle.bw_engine.specs.declared.live_cells.LiveCells.{LiveCells}
use Rattle.bw_engine.proofs.FoundLaws.{live_found, where_found}
use Rattle.bw_engine.proofs.LiveLaws.{live_wide}
use Rattle.bw_engine.proofs.Steps.{found_in}

pub live_typed : (P : Value → Type 0) (slots : List Slot) (k : ℕ) → All P (slot_column slots k) → All P (column_of (rows_in slots) k)
live_typed P [] k all = All-nil P
live_typed P (slot ∷ slots) k all =
    let first : P (value_at slot.row k) = subst P (one_value slot.row k) (All-head P (values.value_at slot.row k) (slot_column slots k) all) in
    let rest : All P (column_of (rows_in slots) k) = live_typed P slots k (All-tail P (values.value_at slot.row k) (slot_column slots k) all) in
    elim (cases_Bool slot.live) [
      | inl e ↦ rw e (All-cons P (value_at slot.row k) (column_of (rows_in slots) k) first rest)
      | inr e ↦ rw e rest
    ]

-- where no slot is dead, a column of the slots is that of the rows
no_more_live : (slots : List Slot) → length (live_slots slots) ≤ length slots
no_more_live [] = omega arith
no_more_live (slot ∷ slots) =
    elim (cases_Bool slot.live) [
      | inl e ↦ rw e (omega (arith, no_more_live slots))
      | inr e ↦ rw e (omega (arith, no_more_live slots))
    ]

all_live : (slots : List Slot) → length (live_slots slots) ≡ length slots → live_slots slots ≡ slots
all_live [] same = refl
all_live (slot ∷ slots) same =
    elim (cases_Bool slot.live) [
      | inl e ↦
          let rest : length (live_slots slots) ≡ length slots = omega (arith, (rw e at same)) in
          ap (λ (b : Bool). if b then slot ∷ live_slots slots else live_slots slots) e ∙ ap (λ l. slot ∷ l) (all_live slots rest)
      | inr e ↦
          let fewer : length (live_slots slots) ≡ length slots + 1 = omega (arith, (rw e at same)) in
          absurd (omega (arith, fewer, no_more_live slots))
    ]

pub whole_column : (slots : List Slot) (k : ℕ) → length (live_slots slots) ≡ length slots → slot_column slots k ≡ column_of (rows_in slots) k
whole_column slots k same =
    ap (λ (l : List Slot). map (λ row. values.value_at row k) (map (λ slot. slot.row) l)) (sym (all_live slots same))
    ∙ (λ j. map (λ (row : Row). one_value row k j) (rows_in slots))

-- a column more
pub columns_more : (columns new : List LiveCells) (column : LiveCells) (rows : List Row) (k : ℕ) → map saved_cells columns ≡ map (column_of rows) (range_with_len 0 k) → saved_cells column ≡ column_of rows k
    → new ≡ columns ++ column ∷ [] → map saved_cells new ≡ map (column_of rows) (range_with_len 0 (k + 1))
columns_more columns new column rows k so_far is more =
    ap (map saved_cells) more ∙ map-push saved_cells columns column ∙ (λ j. so_far j ++ is j ∷ []) ∙ sym (map-range_with_len_more (column_of rows) 0 k k (omega arith))

-- a column for each header so far, and one more
pub typed_more : (headers : List Header) (columns new : List LiveCells) (column : LiveCells) (k : ℕ) (d : Header) → k < length headers → length columns ≡ k
    → AllZip IsTyped (take k headers) (map saved_cells columns) → IsTyped (get_or headers k d) (saved_cells column) → new ≡ columns ++ column ∷ [] → AllZip IsTyped (take (k + 1) headers) (map saved_cells new)
typed_more headers columns new column k d low count so_far here more =
    rw (take_more headers k d low, more, map-push saved_cells columns column) (all_zipped_more IsTyped (take k headers) (map saved_cells columns) (get_or headers k d) (saved_cells column) so_far here)

-- columns as a file has them
pub filed_width : (columns : List LiveCells) (rows : List Row) (headers : List Header)
    → map saved_cells columns ≡ map (column_of rows) (range_with_len 0 (length headers)) → length columns ≡ length headers
filed_width columns rows headers are = sym (length-map columns saved_cells) ∙ ap length are ∙ length-map-range_with_len (column_of rows) 0 (length headers)

pub filed_long : (columns : List LiveCells) (rows : List Row) (n count : ℕ) → map saved_cells columns ≡ map (column_of rows) (range_with_len 0 n) → count ≡ length rows → All (λ cells. length cells ≡ count) (map saved_cells columns)
filed_long columns rows n count are same =
    subst (All (λ (cells : List Value). length cells ≡ count)) (sym are) (All-map (column_of rows) count (range_with_len 0 n) (λ k. length-map rows (λ row. value_at row k) ∙ sym same))

-- bytes that spell a stored table by its columns hold it
pub holds_stored : (bytes : List ℕ) (table : StoredTable) (headers : List Header) (rows : ℕ) (columns : List (List Value)) → headers ≡ table.headers → rows ≡ length (rows_in table.slots)
    → columns ≡ map (column_of (rows_in table.slots)) (range_with_len 0 (length table.headers)) → All (λ slot. length slot.row ≡ length table.headers) table.slots
    → SpelledBy Second bytes (record { headers = headers; rows = rows; columns = columns }) → HoldsBy Second bytes (table_in table)
holds_stored bytes table headers rows columns heads count are wide spells =
    let filed_is : ◌≡◌ {A = file.Table} (record { headers = headers; rows = rows; columns = columns }) (filed (table_in table)) = λ j. record { headers = heads j; rows = count j; columns = are j } in
    record {
      wide = live_wide (length table.headers) table.slots wide;
      spells = subst (SpelledBy Second bytes) filed_is spells;
    }

-- a SAVE of a table that is there
module _ (tables : Stored) (name file : List ℕ) (table : StoredTable) (there : lookup (bytes_eq name) tables ≡ Some table) where
  pub saved_table : table_of (store_of tables) name ≡ Some (table_in table)
  saved_table = found_in tables name ∙ ap (option_map table_in) there

  pub save_too_large : file_limit < filed_length (table_in table) → refused_early (store_of tables) (save name file) ≡ Some FileTooLarge
  save_too_large long = ap (λ o. first_that_holds (over o save_tests)) saved_table ∙ this_test _ _ _ (lt-ltb file_limit (filed_length (table_in table)) long)

  pub save_accepted : filed_length (table_in table) ≤ file_limit → refused_early (store_of tables) (save name file) ≡ None
  save_accepted fits = ap (λ o. first_that_holds (over o save_tests)) saved_table ∙ no_test _ _ _ (le-ltb file_limit (filed_length (table_in table)) fits)

-- a SAVE that runs out of memory
pub save_wants : (store : Store) (statement : StatementTree) (r : Result Saving Refusal) (after : Store) → refused_early store statement ≡ None → IsErrAnd r (λ e. e ≡ OutOfMemory) → SavesOr store statement r after
save_wants store statement (Ok saving) after accepted wants = absurd wants
save_wants store statement (Err e) after accepted wants = inl (accepted, wants)
