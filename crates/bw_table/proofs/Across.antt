-- Columns side by side, read across as a list of slots.
use Rattle.std.proofs.Common.{◌≡◌, ℕ, suc, ℤ, ◌+◌, ◌-◌, ◌<◌, ◌≤◌, ◌^◌, true, false, ◌&&◌, not, List, [], ◌∷◌, ◌++◌, length, get_or, map, replicate, refl, sym, ap, subst, ◌∙◌, inl, inr, arith, length-append, Option, None, Result, Ok, Err, OnErr}
use Rattle.std.specs.List.{All, range_with_len}
use Rattle.std.proofs.lemmas.Bool.{cases_lt}
use Rattle.std.proofs.lemmas.List.{get_or_append_left, get_or-append_right, get_or-map, length-map, length-replicate, get_or-replicate, same_lists, get_or_default}
use Rattle.std.proofs.lemmas.List.Elements.{All-append, All-from_get_or, All-map}
use Rattle.bw_mask.specs.Masks.{MaskRows, len, row_at}
use Rattle.bw_column.specs.Columns.{ColumnView}
use Rattle.bw_column.specs.Preparing.{IsEncodingFor}
use Rattle.bw_column.specs.Values.{IsNullOrHeld, value_at}
use Rattle.bw_code.specs.Lists.{made}
use Rattle.bw_code.proofs.Lists.{made_at, made_is, made_len}
use Rattle.bw_code.proofs.Types.{zipped_by}
use Rattle.bw_column.proofs.Chosen.{holds_any}
use Rattle.bw_table.specs.Changes.{AreAppended, AreEncodingsFor, slots_without}
use Rattle.bw_table.specs.Slots.{AreColumns, IsHeldRow, Slot, SlotsView, column_of, live_slot, row_of, slot_at, slot_column, slot_of, slots_of}
use Rattle.bw_table.specs.Halves.{AllKept, AllMadeFrom}
use Rattle.bw_table.proofs.Held.{all_down, held_kept}
use Rattle.bw_code.specs.declared.encoding.Encoding.{Encoding}
use Rattle.bw_code.specs.declared.encoding.Encoding.TheVariants.{Dictionary}
use Rattle.bw_code.specs.declared.kind.Layout.TheVariants.{P}

pub no_column : ColumnView
no_column = record { values = []; layout = P; encoding = Dictionary []; room = 0 }

pub map_same : {B : Type 0} (f : ColumnView → B) (xs ys : List ColumnView) → length xs ≡ length ys → ((k : ℕ) (d : ColumnView) → k < length ys → f (get_or xs k d) ≡ f (get_or ys k d)) → map f xs ≡ map f ys
map_same f [] [] e each = refl
map_same f [] (y ∷ ys) e each = absurd (omega (arith, e))
map_same f (x ∷ xs) [] e each = absurd (omega (arith, e))
map_same f (x ∷ xs) (y ∷ ys) e each =
    let rest : map f xs ≡ map f ys = map_same f xs ys (omega (arith, e)) (λ k d l. each (suc k) d (omega arith)) in
    let first : f x ≡ f y = each 0 x (omega arith) in
    rw (first, rest) refl

-- the columns with the mask of the live slots
abbrev pub view_of : List ColumnView → MaskRows → SlotsView
view_of columns live = record { slots = slots_of columns live; layouts = map (λ column. column.layout) columns; encodings = map (λ column. column.encoding) columns }

-- columns that were kept are the same rows
module _ (new old : List ColumnView) (kept : AllKept new old) where
  pub kept_row : (i : ℕ) → row_of new i ≡ row_of old i
  kept_row i = map_same (λ column. value_at column.values i) new old kept.count (λ k d l. ap (λ values. value_at values i) (kept.each k d).values)

  pub kept_encodings : map (λ column. column.encoding) new ≡ map (λ column. column.encoding) old
  kept_encodings = map_same (λ column. column.encoding) new old kept.count (λ k d l. (kept.each k d).encoding)

  pub kept_layouts : map (λ column. column.layout) new ≡ map (λ column. column.layout) old
  kept_layouts = map_same (λ column. column.layout) new old kept.count (λ k d l. (kept.each k d).layout)

  module _ (new_live live : MaskRows) (rows : new_live.rows ≡ live.rows) where
    pub kept_slots : slots_of new new_live ≡ slots_of old live
    kept_slots =
        made_is (len live) (slot_of old live) (slots_of new new_live) (slot_of old live 0) (made_len (len new_live) (slot_of new new_live) ∙ ap length rows) (λ i h.
        made_at (len new_live) (slot_of new new_live) i (slot_of old live 0) (omega (arith, ap length rows)) ∙ rw (kept_row i, rows) refl)

    pub kept_view : view_of new new_live ≡ view_of old live
    kept_view = rw (kept_slots, kept_layouts, kept_encodings) refl

    pub kept_columns : AreColumns old live → AreColumns new new_live
    kept_columns are = record {
      rows = λ k d l. ap length (kept.each k d).values ∙ are.rows k d (omega (arith, kept.count)) ∙ ap length (sym rows);
      few = omega (arith, are.few, ap length rows);
      held = held_kept new old kept are.held;
    }

-- each column has its column of the rows last
pub record AreLonger (new old : List ColumnView) (rows : List (List (Option ℤ))) : Type 0 where
  pub count : length new ≡ length old
  pub each : (k : ℕ) (d : ColumnView) → k < length old → (get_or new k d).values ≡ (get_or old k d).values ++ column_of rows k
  pub layout : (k : ℕ) (d : ColumnView) → k < length old → (get_or new k d).layout ≡ (get_or old k d).layout
  pub encoding : (k : ℕ) (d : ColumnView) → k < length old → IsEncodingFor (get_or old k d).values (get_or old k d).encoding (column_of rows k) (get_or new k d).encoding

-- a column of rows that are held by the columns' layouts
pub layout_down : (columns : List ColumnView) (rows : List (List (Option ℤ))) → All (IsHeldRow (map (λ column. column.layout) columns)) rows → (k : ℕ) (d : ColumnView) → k < length columns → All (IsNullOrHeld (get_or columns k d).layout) (column_of rows k)
layout_down columns rows held k d low =
    subst (λ l. All (IsNullOrHeld l) (column_of rows k)) (get_or-map (λ (c : ColumnView). c.layout) columns k d d.layout low)
    (all_down IsNullOrHeld (map (λ column. column.layout) columns) rows held k d.layout (omega (arith, low, length-map columns (λ (c : ColumnView). c.layout))))

-- THE TRANSPOSITION: where each column got its column of the rows, and the mask as many live rows, the slots got the rows
module _ (new old : List ColumnView) (live new_live : MaskRows) (rows : List (List (Option ℤ))) (are : AreColumns old live) (longer : AreLonger new old rows) (wide : All (λ row. length row ≡ length old) rows) (more : new_live.rows ≡ live.rows ++ replicate (length rows) true) where
  total : len new_live ≡ len live + length rows
  total = ap length more ∙ length-append live.rows (replicate (length rows) true) ∙ ap (λ k. len live + k) (length-replicate (length rows) true)

  live_at : (j : ℕ) → j < length rows → get_or (replicate (length rows) true) (len live + j - len live) false ≡ true
  live_at j h = get_or-replicate (length rows) (len live + j - len live) true false (omega arith)

  row_below : (i : ℕ) → i < len live → row_of new i ≡ row_of old i
  row_below i h =
      map_same (λ column. value_at column.values i) new old longer.count (λ k d l.
      ap (λ values. value_at values i) (longer.each k d l) ∙ get_or_append_left (get_or old k d).values (column_of rows k) None i (omega (arith, are.rows k d l)))

  row_above : (j : ℕ) → j < length rows → row_of new (len live + j) ≡ get_or rows j []
  row_above j h =
      let i = len live + j in
      let row = get_or rows j [] in
      let w : length row ≡ length old = wide j [] h in
      same_lists (row_of new i) row (length-map new (λ column. value_at column.values i) ∙ longer.count ∙ sym w) (λ k d l.
      let low : k < length old = omega (arith, length-map new (λ (column : ColumnView). value_at column.values i), longer.count) in
      let n = len live in
      let above : n ≤ i = omega arith in
      get_or-map (λ (column : ColumnView). value_at column.values i) new k no_column d (omega (arith, longer.count))
      ∙ ap (λ values. value_at values i) (longer.each k no_column low)
      ∙ get_or-append_right (get_or old k no_column).values (column_of rows k) n i None (are.rows k no_column low) above
      ∙ ap (λ (m : ℕ). get_or (column_of rows k) m None) (omega arith)
      ∙ get_or-map (λ (r : List (Option ℤ)). value_at r k) rows j [] None h
      ∙ get_or_default row k None d (omega (arith, w)))

  new_slot : (i : ℕ) (d : Slot) → i < len live + length rows → get_or (slots_of old live ++ map live_slot rows) i d ≡ slot_of new new_live i
  new_slot i d h =
      elim (cases_lt i (len live)) [
        | inl low ↦
            get_or_append_left (slots_of old live) (map live_slot rows) d i (omega (arith, made_len (len live) (slot_of old live)))
            ∙ made_at (len live) (slot_of old live) i d low
            ∙ rw (row_below i low, more, get_or_append_left live.rows (replicate (length rows) true) false i low) refl
        | inr high ↦
            let j = i - len live in
            let e : i ≡ len live + j = omega arith in
            let l : j < length rows = omega arith in
            get_or-append_right (slots_of old live) (map live_slot rows) (len live) i d (made_len (len live) (slot_of old live)) high
            ∙ get_or-map live_slot rows j [] d l
            ∙ sym (ap (λ (k : ℕ). slot_of new new_live k) e ∙ rw (row_above j l, more, get_or-append_right live.rows (replicate (length rows) true) (len live) (len live + j) false refl (omega arith), live_at j l) refl)
      ]

  pub slots_longer : slots_of new new_live ≡ slots_of old live ++ map live_slot rows
  slots_longer =
      sym (made_is (len new_live) (slot_of new new_live) (slots_of old live ++ map live_slot rows) (live_slot []) (length-append (slots_of old live) (map live_slot rows) ∙ rw (made_len (len live) (slot_of old live), length-map rows live_slot) (sym total)) (λ i h. new_slot i (live_slot []) (omega (arith, total))))

  pub columns_longer : len live + length rows ≤ 2 ^ 24 → All (IsHeldRow (map (λ column. column.layout) old)) rows → AreColumns new new_live
  columns_longer few held = record {
    rows = λ k d l.
        let low : k < length old = omega (arith, longer.count) in
        ap length (longer.each k d low) ∙ length-append (get_or old k d).values (column_of rows k) ∙ rw (are.rows k d low, length-map rows (λ row. value_at row k)) (sym total);
    few = omega (arith, total);
    held = λ k d l.
        let low : k < length old = omega (arith, longer.count, l) in
        let layout = (get_or old k d).layout in
        rw (longer.each k d low, longer.layout k d low) (All-append (IsNullOrHeld layout) (get_or old k d).values (column_of rows k) (are.held k d low) (layout_down old rows held k d low));
  }

-- what the two halves do
pub longer : (new mid old : List ColumnView) (rows : List (List (Option ℤ))) → length new ≡ length mid → AllKept mid old → AllMadeFrom 0 rows new mid → AreLonger new old rows
longer new mid old rows count kept made = record {
  count = count ∙ kept.count;
  each = λ k c l.
      let low : k < length mid = omega (arith, kept.count) in
      (made k c (omega arith) low).values ∙ ap (λ xs. xs ++ column_of rows k) (kept.each k c).values;
  layout = λ k c l.
      let low : k < length mid = omega (arith, kept.count) in
      (made k c (omega arith) low).layout ∙ (kept.each k c).layout;
  encoding = λ k c l.
      let low : k < length mid = omega (arith, kept.count) in
      let keeps = kept.each k c in
      subst (λ (own : Encoding). IsEncodingFor (get_or old k c).values own (column_of rows k) (get_or new k c).encoding) keeps.encoding
      (subst (λ (xs : List (Option ℤ)). IsEncodingFor xs (get_or mid k c).encoding (column_of rows k) (get_or new k c).encoding) keeps.values (made k c (omega arith) low).encoding);
}

pub on_err : {E : Type 0} (result : Result (Unit {0}) E) (fact : Type 0) → fact → OnErr result fact
on_err (Ok x) fact h = tt
on_err (Err e) fact h = h

pub deleted_slots : (columns : List ColumnView) (live new_live found : MaskRows) → len new_live ≡ len live → ((i : ℕ) → row_at new_live i ≡ (row_at live i && not (row_at found i))) → slots_of columns new_live ≡ slots_without found (slots_of columns live)
deleted_slots columns live new_live found same rows =
    made_is (length (slots_of columns live)) _ (slots_of columns new_live) (live_slot []) (made_len (len new_live) (slot_of columns new_live) ∙ same ∙ sym (made_len (len live) (slot_of columns live))) (λ i h.
    let low : i < len live = omega (arith, made_len (len live) (slot_of columns live)) in
    made_at (len new_live) (slot_of columns new_live) i (live_slot []) (omega (arith, same)) ∙ rw (made_at (len live) (slot_of columns live) i (live_slot []) low, rows i) refl)

pub fetched : (columns : List ColumnView) (live : MaskRows) (i k : ℕ) (column : ColumnView) → i < len live → k < length columns → column ≡ get_or columns k column → (d : Slot) → value_at column.values i ≡ value_at (get_or (slots_of columns live) i d).row k
fetched columns live i k column low inside is d =
    sym (ap (λ (slot : Slot). value_at slot.row k) (made_at (len live) (slot_of columns live) i d low)
    ∙ get_or-map (λ (c : ColumnView). value_at c.values i) columns k column None inside
    ∙ ap (λ (c : ColumnView). value_at c.values i) (sym is))

-- read downward, the slots give the columns back
pub column_back : (columns : List ColumnView) (live : MaskRows) (k : ℕ) → k < length columns → length (get_or columns k no_column).values ≡ len live → slot_column (slots_of columns live) k ≡ (get_or columns k no_column).values
column_back columns live k inside same =
    let slots = slots_of columns live in
    let rows : List (List (Option ℤ)) = map (λ slot. slot.row) slots in
    let n : length slots ≡ len live = made_len (len live) (slot_of columns live) in
    let m : length rows ≡ len live = length-map slots (λ (slot : Slot). slot.row) ∙ n in
    same_lists (column_of rows k) (get_or columns k no_column).values (length-map rows (λ (row : List (Option ℤ)). value_at row k) ∙ m ∙ sym same) (λ i d h.
    let low : i < len live = omega (arith, length-map rows (λ (row : List (Option ℤ)). value_at row k), m) in
    get_or-map (λ (row : List (Option ℤ)). value_at row k) rows i [] d (omega (arith, m))
    ∙ ap (λ (row : List (Option ℤ)). value_at row k) (get_or-map (λ (slot : Slot). slot.row) slots i (live_slot []) [] (omega (arith, n)) ∙ ap (λ (slot : Slot). slot.row) (made_at (len live) (slot_of columns live) i (live_slot []) low))
    ∙ get_or-map (λ (c : ColumnView). value_at c.values i) columns k no_column None inside
    ∙ get_or_default (get_or columns k no_column).values i None d (omega (arith, same)))

pub encodings_longer : (new old : List ColumnView) (live : MaskRows) (rows : List (List (Option ℤ))) → AreColumns old live → AreLonger new old rows → AreEncodingsFor (slots_of old live) (map (λ column. column.encoding) old) rows (map (λ column. column.encoding) new)
encodings_longer new old live rows are longer k d e l =
    let low : k < length old = omega (arith, length-map old (λ (c : ColumnView). c.encoding)) in
    rw (column_back old live k low (are.rows k no_column low), get_or-map (λ (c : ColumnView). c.encoding) old k no_column d low, get_or-map (λ (c : ColumnView). c.encoding) new k no_column e (omega (arith, longer.count))) (longer.encoding k no_column low)

-- what an append makes
pub are_appended : (new old : List ColumnView) (live new_live : MaskRows) (rows : List (List (Option ℤ))) → AreColumns old live → AreLonger new old rows → All (λ row. length row ≡ length old) rows → new_live.rows ≡ live.rows ++ replicate (length rows) true → AreAppended (view_of old live) rows (view_of new new_live)
are_appended new old live new_live rows are longer wide more = record {
  slots_are = slots_longer new old live new_live rows are longer wide more;
  layouts_are = map_same (λ column. column.layout) new old longer.count (λ k d l. longer.layout k d l);
  width = length-map new (λ (c : ColumnView). c.encoding) ∙ longer.count ∙ sym (length-map old (λ (c : ColumnView). c.encoding));
  encodings_are = encodings_longer new old live rows are longer;
}

pub slots_count : (columns : List ColumnView) (live : MaskRows) → length (slots_of columns live) ≡ len live
slots_count columns live = made_len (len live) (slot_of columns live)

pub live_rows : (columns : List ColumnView) (live : MaskRows) (i : ℕ) → i < length (slots_of columns live) → row_at live i ≡ (slot_at (slots_of columns live) i).live
live_rows columns live i l = sym (ap (λ (s : Slot). s.live) (made_at (len live) (slot_of columns live) i (live_slot []) (omega (arith, l, slots_count columns live))))

pub column_values : (columns : List ColumnView) (live : MaskRows) (k : ℕ) (column : ColumnView) → AreColumns columns live → k < length columns → column ≡ get_or columns k column → column.values ≡ slot_column (slots_of columns live) k
column_values columns live k column are inside is = ap (λ (c : ColumnView). c.values) (is ∙ get_or_default columns k column no_column inside) ∙ sym (column_back columns live k inside (are.rows k no_column inside))

-- across, and then downward
pub column_at : (slots : List Slot) (k i : ℕ) → i < length slots → value_at (slot_column slots k) i ≡ value_at (slot_at slots i).row k
column_at slots k i l =
    let m = length-map slots (λ (slot : Slot). slot.row) in
    get_or-map (λ (row : List (Option ℤ)). value_at row k) (map (λ (slot : Slot). slot.row) slots) i [] None (omega (arith, l, m))
    ∙ ap (λ (row : List (Option ℤ)). value_at row k) (get_or-map (λ (slot : Slot). slot.row) slots i (live_slot []) [] l)

-- each slot has a value for each column
pub slots_wide : (columns : List ColumnView) (live : MaskRows) → All (λ slot. length slot.row ≡ length (map (λ column. column.encoding) columns)) (slots_of columns live)
slots_wide columns live =
    All-map (λ (slot : Slot). length slot.row ≡ n) (slot_of columns live) (range_with_len 0 (len live))
    (All-from_get_or (λ i. length (slot_of columns live i).row ≡ n) (range_with_len 0 (len live)) 0 (λ j h. length-map columns (λ (column : ColumnView). value_at column.values (get_or (range_with_len 0 (len live)) j 0)) ∙ sym (length-map columns (λ (column : ColumnView). column.encoding))))
  where
    n : ℕ
    n = length (map (λ (column : ColumnView). column.encoding) columns)

-- and its layout holds it
pub slots_held : (columns : List ColumnView) (live : MaskRows) → AreColumns columns live → All (λ slot. IsHeldRow (map (λ column. column.layout) columns) slot.row) (slots_of columns live)
slots_held columns live are i d l =
    let low : i < len live = omega (arith, l, made_len (len live) (slot_of columns live)) in
    let layouts = length-map columns (λ (c : ColumnView). c.layout) in
    let across = length-map columns (λ (c : ColumnView). value_at c.values i) in
    rw (made_at (len live) (slot_of columns live) i d low) (zipped_by IsNullOrHeld (map (λ column. column.layout) columns) (row_of columns i) (across ∙ sym layouts) (λ k a e h.
    let inside : k < length columns = omega (arith, h, layouts) in
    let column = get_or columns k no_column in
    rw (get_or-map (λ (c : ColumnView). c.layout) columns k no_column a inside, get_or-map (λ (c : ColumnView). value_at c.values i) columns k no_column e inside)
    (holds_any (IsNullOrHeld column.layout) column.values tt (are.held k no_column inside) i)))
