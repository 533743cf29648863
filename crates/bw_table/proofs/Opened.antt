-- A table made of whole columns of cells: its rows are those that the columns are read across.
use Rattle.std.proofs.Common.{IsTrue, List, Option, [], ◌∷◌, ◌++◌, ap, arith, get_or, inl, inr, length, map, refl, replicate, sym, true, false, ℕ, ℤ, ◌+◌, ◌<◌, ◌^◌, ◌∙◌, ◌≡◌, ◌≤◌}
use Rattle.std.specs.List.{All, AllZip}
use Rattle.std.proofs.lemmas.Bool.{cases_lt}
use Rattle.std.proofs.lemmas.List.{get_or_append_left, get_or_push, get_or-map, get_or-replicate, length-map, length-replicate, same_lists}
use Rattle.bw_mask.specs.Masks.{MaskRows, len}
use Rattle.bw_code.specs.Encodings.{kind_of}
use Rattle.bw_code.specs.Types.{IsNullOrOfType, IsTyped, holds_its_type, types_of}
use Rattle.bw_code.specs.declared.header.Header.{Header}
use Rattle.bw_code.proofs.Types.{zipped_at, zipped_by}
use Rattle.bw_code.proofs.Lists.{made_at, made_is, made_len}
use Rattle.bw_column.specs.Columns.{ColumnView}
use Rattle.bw_column.proofs.Chosen.{holds_any}
use Rattle.bw_column.specs.Values.{IsNullOrHeld, value_at}
use Rattle.bw_table.specs.Opening.{AreFitted, AreOpened, AreOpenedBelow, IsOpened, row_across, rows_across}
use Rattle.bw_table.specs.Slots.{AreColumns, live_slot, row_of, slot_of, slots_of}
use Rattle.bw_table.specs.Tables.{AreHeadersOf}
use Rattle.bw_table.proofs.Across.{no_column, view_of}
use Rattle.bw_table.proofs.Heads.{first_of, told}
use Rattle.bw_table.proofs.Typed.{AreTyped, all_held, typed_live}

module _ {N : Type 0} where
  -- one column more
  pub opened_more : (headers : List (Header N)) (cells : List (List (Option ℤ))) (columns : List ColumnView) (column : ColumnView) (n : ℕ) → length columns ≡ n → AreOpenedBelow n headers cells columns → ((h : Header N) → IsOpened (get_or headers n h) (get_or cells n []) column) → AreOpenedBelow (n + 1) headers cells (columns ++ column ∷ [])
  opened_more headers cells columns column n len below is k h d l =
      elim (cases_lt k n) [
        | inl low ↦ rw (get_or_append_left columns (column ∷ []) d k (omega (arith, len))) (below k h d low)
        | inr high ↦
            let e : k ≡ n = omega arith in
            rw (e, get_or_push columns column d n len) (is h)
      ]

  -- cells of a type are held by the layout that holds it
  pub opened_held : (headers : List (Header N)) (cells : List (List (Option ℤ))) → All (λ header. IsTrue (holds_its_type header)) headers → AllZip IsTyped headers cells → (k : ℕ) (h : Header N) → k < length headers → All (IsNullOrHeld (get_or headers k h).layout) (get_or cells k [])
  opened_held headers cells held typed k h low = all_held (get_or headers k h).layout (get_or headers k h).column_type (get_or cells k []) (held k h low) (zipped_at IsTyped headers cells k h [] typed low)

  module _ (headers : List (Header N)) (cells : List (List (Option ℤ))) (columns : List ColumnView) (live : MaskRows) (rows : ℕ) (wide : length cells ≡ length headers) (long : All (λ xs. length xs ≡ rows) cells) (few : rows ≤ 2 ^ 24) (are : AreOpened headers cells columns) (all : live.rows ≡ replicate rows true) where
    total : len live ≡ rows
    total = ap length all ∙ length-replicate rows true

    pub opened_columns : ((k : ℕ) (h : Header N) → k < length headers → All (IsNullOrHeld (get_or headers k h).layout) (get_or cells k [])) → AreColumns columns live
    opened_columns held = record {
      rows = λ k d l.
          let low : k < length headers = omega (arith, l, are.count) in
          ap length (are.each k (first_of headers k low) d low).values ∙ long k [] (omega (arith, low, wide)) ∙ sym total;
      few = omega (arith, few, total);
      held = λ k d l.
          let low : k < length headers = omega (arith, l, are.count) in
          let h = first_of headers k low in
          rw ((are.each k h d low).values, (are.each k h d low).layout) (held k h low);
    }

    row_is : (i : ℕ) → row_across cells i ≡ row_of columns i
    row_is i =
        let across = length-map cells (λ (xs : List (Option ℤ)). value_at xs i) in
        let count = length-map columns (λ (c : ColumnView). value_at c.values i) in
        same_lists (row_across cells i) (row_of columns i) (across ∙ wide ∙ sym (count ∙ are.count)) (λ k d l.
        let low : k < length headers = omega (arith, l, across, wide) in
        get_or-map (λ (xs : List (Option ℤ)). value_at xs i) cells k [] d (omega (arith, low, wide))
        ∙ ap (λ (xs : List (Option ℤ)). value_at xs i) (sym (are.each k (first_of headers k low) no_column low).values)
        ∙ sym (get_or-map (λ (c : ColumnView). value_at c.values i) columns k no_column d (omega (arith, low, are.count))))

    pub opened_slots : slots_of columns live ≡ map live_slot (rows_across rows cells)
    opened_slots =
        let across = rows_across rows cells in
        let n = made_len rows (row_across cells) in
        sym (made_is (len live) (slot_of columns live) (map live_slot across) (live_slot []) (length-map across live_slot ∙ n ∙ sym total) (λ i h.
        let low : i < rows = omega (arith, h, total) in
        get_or-map live_slot across i [] (live_slot []) (omega (arith, low, n))
        ∙ ap live_slot (made_at rows (row_across cells) i [] low ∙ row_is i)
        ∙ rw (all, get_or-replicate rows i true false low) refl))

    opened_typed : AllZip IsTyped headers cells → AreTyped (types_of headers) (slots_of columns live)
    opened_typed typed =
        rw opened_slots (typed_live (types_of headers) (rows_across rows cells) (λ i d l.
        let low : i < rows = omega (arith, l, made_len rows (row_across cells)) in
        let across = length-map cells (λ (xs : List (Option ℤ)). value_at xs i) in
        let types = length-map headers (λ (header : Header N). header.column_type) in
        rw (made_at rows (row_across cells) i d low) (zipped_by IsNullOrOfType (types_of headers) (row_across cells i) (across ∙ wide ∙ sym types) (λ k t e m.
        let inside : k < length headers = omega (arith, m, types) in
        let h = first_of headers k inside in
        let own = (get_or headers k h).column_type in
        rw (get_or-map (λ (header : Header N). header.column_type) headers k h t inside, get_or-map (λ (xs : List (Option ℤ)). value_at xs i) cells k [] e (omega (arith, inside, wide)))
        (holds_any (IsNullOrOfType own) (get_or cells k []) tt (zipped_at IsTyped headers cells k h [] typed inside) i)))))

    pub opened_headers : All (λ header. IsTrue (holds_its_type header)) headers → AllZip IsTyped headers cells → AreHeadersOf headers (view_of columns live)
    opened_headers held typed = record {
      typed = opened_typed typed;
      held = held;
      layouts_are = told (λ (header : Header N). header.layout) headers (map (λ c. c.layout) columns) (sym (length-map columns (λ (c : ColumnView). c.layout) ∙ are.count)) (λ k h d l. sym (get_or-map (λ (c : ColumnView). c.layout) columns k no_column d (omega (arith, l, are.count)) ∙ (are.each k h no_column l).layout));
      kinds_are = told (λ (header : Header N). header.kind) headers (map kind_of (map (λ c. c.encoding) columns)) (sym (length-map (map (λ c. c.encoding) columns) kind_of ∙ length-map columns (λ (c : ColumnView). c.encoding) ∙ are.count)) (λ k h d l.
          let inside : k < length columns = omega (arith, l, are.count) in
          sym (get_or-map kind_of (map (λ (c : ColumnView). c.encoding) columns) k no_column.encoding d (omega (arith, inside, length-map columns (λ (c : ColumnView). c.encoding))) ∙ ap kind_of (get_or-map (λ (c : ColumnView). c.encoding) columns k no_column no_column.encoding inside) ∙ (are.each k h no_column l).fitted.kind));
    }

    pub opened_fitted : AreFitted headers cells (map (λ c. c.encoding) columns)
    opened_fitted = record {
      count = length-map columns (λ (c : ColumnView). c.encoding) ∙ are.count;
      each = λ k h e l. rw (get_or-map (λ (c : ColumnView). c.encoding) columns k no_column e (omega (arith, l, are.count))) (are.each k h no_column l).fitted;
    }
