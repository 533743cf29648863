-- Columns that are set, or built anew from the live rows, read across as a list of slots.
use Rattle.std.proofs.Common.{◌≡◌, ℕ, ◌<◌, subst, true, false, List, [], length, get_or, map, replicate, count_by, refl, sym, ap, ◌∙◌, inl, inr, arith, Option, Some, None, if◌then◌else◌}
use Rattle.std.specs.List.{All, filter, range_with_len}
use Rattle.std.proofs.lemmas.Bool.{cases_Bool}
use Rattle.std.proofs.lemmas.List.{get_or_default, get_or-map, get_or-replicate, length-map, length-replicate, same_lists}
use Rattle.std.proofs.lemmas.List.Sums.{count_by-le-length}
use Rattle.bw_mask.specs.Masks.{MaskRows, len, row_at}
use Rattle.bw_column.specs.Columns.{ColumnView}
use Rattle.bw_column.specs.Places.{put_at}
use Rattle.bw_code.proofs.Lists.{made_at, made_is, made_len}
use Rattle.bw_column.specs.Values.{IsNullOrHeld, value_at}
use Rattle.bw_column.proofs.Ordered.{all_chosen}
use Rattle.bw_table.specs.Changes.{AreEncodingsWith, AreRebuilt, AreUpdated, HoldAsChosen, IsEncodingWith, choice_of, chosen_kind, chosen_layout, new_value, places, row_with, rows_found, set_of, slots_with, value_for}
use Rattle.bw_table.specs.Slots.{AreColumns, Slot, SlotsView, live_slot, live_slots, row_of, slot_at, slot_of, slots_of}
use Rattle.bw_table.specs.Sets.{AllBuilt, AllSet, IsSet, gathered}
use Rattle.bw_table.specs.declared.setting.SetTo.{SetTo}
use Rattle.bw_table.specs.declared.setting.SetTo.TheVariants.{Column}
use Rattle.bw_table.specs.declared.choice.Choice.{Choice}
use Rattle.bw_code.specs.Encodings.{kind_of}
use Rattle.bw_code.specs.declared.kind.Layout.TheVariants.{P}
use Rattle.bw_table.proofs.Places.{count_places, gathered_column, filter_mapped, map_alike, map_twice, places_in, places_inside, put_gathered}
use Rattle.bw_table.proofs.Held.{held_set, set_is_one}
use Rattle.bw_table.proofs.Across.{column_back, map_same, no_column, view_of}

-- what a column is set to, its layout holds
abbrev pub AreSetHeld : List ColumnView → MaskRows → ℕ × SetTo → Type 0
AreSetHeld columns found set = (d : ColumnView) → All (IsNullOrHeld (get_or columns set.0 d).layout) (gathered columns found set.1)

-- the rows of found slots, through the columns
found_rows : (columns : List ColumnView) (live found : MaskRows) → len found ≡ len live → rows_found found (slots_of columns live) ≡ map (row_of columns) (places found)
found_rows columns live found as_long =
    map_alike (λ i. (slot_at (slots_of columns live) i).row) (row_of columns) (places found) (λ k d l.
    ap (λ (slot : Slot). slot.row) (made_at (len live) (slot_of columns live) (get_or (places found) k d) (live_slot []) (omega (arith, places_inside found k d l, as_long))))

-- the same, read across
abbrev pub AreHeldSets : MaskRows → List (ℕ × SetTo) → SlotsView → Type 0
AreHeldSets found sets slots = All (λ set. All (IsNullOrHeld (get_or slots.layouts set.0 P)) (map (value_for set.1) (rows_found found slots.slots))) sets

pub sets_held : (columns : List ColumnView) (live found : MaskRows) (sets : List (ℕ × SetTo)) → len found ≡ len live → All (λ set. set.0 < length columns) sets → AreHeldSets found sets (view_of columns live) → All (AreSetHeld columns found) sets
sets_held columns live found sets as_long named held j s l d =
    let set = get_or sets j s in
    let layout = (get_or columns set.0 d).layout in
    subst (All (IsNullOrHeld layout)) (ap (map (value_for set.1)) (found_rows columns live found as_long) ∙ map_twice (value_for set.1) (row_of columns) (places found))
    (subst (λ x. All (IsNullOrHeld x) (map (value_for set.1) (rows_found found (slots_of columns live)))) (get_or-map (λ (c : ColumnView). c.layout) columns set.0 d P (named j s l)) (held j s l))

-- one column that is set, or not
module _ (columns : List ColumnView) (found : MaskRows) (k : ℕ) (inside : k < length columns) (d : ColumnView) where
  old_value : (i : ℕ) → value_at (row_of columns i) k ≡ value_at (get_or columns k d).values i
  old_value i = get_or-map (λ (column : ColumnView). value_at column.values i) columns k d None inside

  set_value : (to : Option SetTo) (new : ColumnView) → IsSet columns found to new (get_or columns k d) → (i : ℕ) → i < len found → i < length (get_or columns k d).values → value_at new.values i ≡ (if row_at found i then new_value to (row_of columns i) k else value_at (get_or columns k d).values i)
  set_value None new is i l h =
      elim (cases_Bool (row_at found i)) [
        | inl e ↦ rw e (ap (λ values. value_at values i) is.values ∙ sym (old_value i))
        | inr e ↦ rw e (ap (λ values. value_at values i) is.values)
      ]
  set_value (Some to) new is i l h =
      let old = (get_or columns k d).values in
      ap (λ values. value_at values i) is.values_are ∙ made_at (length old) (put_at found (gathered columns found to) old) i None h ∙ put_gathered found (λ j. value_for to (row_of columns j)) old i l

  set_length : (to : Option SetTo) (new : ColumnView) → IsSet columns found to new (get_or columns k d) → length new.values ≡ length (get_or columns k d).values
  set_length None new is = ap length is.values
  set_length (Some to) new is = let old = (get_or columns k d).values in ap length is.values_are ∙ made_len (length old) (put_at found (gathered columns found to) old)

  set_layout : (to : Option SetTo) (new : ColumnView) → IsSet columns found to new (get_or columns k d) → new.layout ≡ (get_or columns k d).layout
  set_layout None new is = is.layout
  set_layout (Some to) new is = is.layout

  set_encoding : (to : Option SetTo) (new : ColumnView) → IsSet columns found to new (get_or columns k d) → IsEncodingWith (map (row_of columns) (places found)) to (get_or columns k d).values (get_or columns k d).encoding new.encoding
  set_encoding None new is = is.encoding
  set_encoding (Some to) new is = rw (map_twice (value_for to) (row_of columns) (places found)) is.encoding

-- where all columns are set, the slots are updated
module _ (new old : List ColumnView) (live found : MaskRows) (sets : List (ℕ × SetTo)) (are : AreColumns old live) (as_long : len found ≡ len live) (all : AllSet found sets new old) where
  value_is : (k : ℕ) (d : ColumnView) → k < length old → (i : ℕ) → i < len live → value_at (get_or new k d).values i ≡ (if row_at found i then new_value (set_of sets k) (row_of old i) k else value_at (get_or old k d).values i)
  value_is k d inside i l = set_value old found k inside d (set_of sets k) (get_or new k d) (all.each k d) i (omega (arith, as_long)) (omega (arith, are.rows k d inside))

  row_is : (i : ℕ) → i < len live → row_of new i ≡ (if row_at found i then row_with sets (row_of old i) else row_of old i)
  row_is i l =
      elim (cases_Bool (row_at found i)) [
        | inl e ↦
            let width : length (row_of old i) ≡ length old = length-map old (λ (column : ColumnView). value_at column.values i) in
            rw e (made_is (length (row_of old i)) (λ k. new_value (set_of sets k) (row_of old i) k) (row_of new i) None (length-map new (λ (column : ColumnView). value_at column.values i) ∙ all.count ∙ sym width) (λ k h.
            let inside : k < length old = omega (arith, width) in
            let is : value_at (get_or new k no_column).values i ≡ new_value (set_of sets k) (row_of old i) k = rw e at (value_is k no_column inside i l) in
            get_or-map (λ (column : ColumnView). value_at column.values i) new k no_column None (omega (arith, all.count)) ∙ is))
        | inr e ↦ rw e (map_same (λ column. value_at column.values i) new old all.count (λ k d inside. rw e at (value_is k d inside i l)))
      ]

  pub slots_set : slots_of new live ≡ slots_with found sets (slots_of old live)
  slots_set =
      let n = made_len (len live) (slot_of old live) in
      made_is (length (slots_of old live)) _ (slots_of new live) (live_slot []) (made_len (len live) (slot_of new live) ∙ sym n) (λ i h.
      let low : i < len live = omega (arith, n) in
      made_at (len live) (slot_of new live) i (live_slot []) low ∙ rw (made_at (len live) (slot_of old live) i (live_slot []) low, row_is i low) refl)

  pub columns_set : All (AreSetHeld old found) sets → AreColumns new live
  columns_set held = record {
    rows = λ k d l. let inside : k < length old = omega (arith, all.count) in set_length old found k inside d (set_of sets k) (get_or new k d) (all.each k d) ∙ are.rows k d inside;
    few = are.few;
    held = λ k d l.
        let inside : k < length old = omega (arith, l, all.count) in
        held_set old found (set_of sets k) (get_or new k d) (get_or old k d) (λ t is. set_is_one (AreSetHeld old found) sets held k t is d) (all.each k d) (are.held k d inside);
  }

  pub encodings_set : AreEncodingsWith found sets (slots_of old live) (map (λ column. column.encoding) old) (map (λ column. column.encoding) new)
  encodings_set k d e l =
      let low : k < length old = omega (arith, length-map old (λ (c : ColumnView). c.encoding)) in
      rw (found_rows old live found as_long, column_back old live k low (are.rows k no_column low), get_or-map (λ (c : ColumnView). c.encoding) old k no_column d low, get_or-map (λ (c : ColumnView). c.encoding) new k no_column e (omega (arith, all.count)))
      (set_encoding old found k low no_column (set_of sets k) (get_or new k no_column) (all.each k no_column))

  pub are_updated : AreUpdated found sets (view_of old live) (view_of new live)
  are_updated = record {
    slots_are = slots_set;
    layouts_are = map_same (λ column. column.layout) new old all.count (λ k d l. set_layout old found k l d (set_of sets k) (get_or new k d) (all.each k d));
    width = length-map new (λ (c : ColumnView). c.encoding) ∙ all.count ∙ sym (length-map old (λ (c : ColumnView). c.encoding));
    encodings_are = encodings_set;
  }

-- the layout that is chosen for each column holds its values, read downward
pub chosen_held : (choices : List (ℕ × Choice)) (columns : List ColumnView) (live : MaskRows) → AreColumns columns live → HoldAsChosen choices (view_of columns live) → (k : ℕ) (d : ColumnView) → k < length columns → All (IsNullOrHeld (chosen_layout (choice_of choices k) (get_or columns k d).layout)) (get_or columns k d).values
chosen_held choices columns live are holds k d l =
    let e = get_or_default columns k d no_column l in
    let layouts = length-map columns (λ (c : ColumnView). c.layout) in
    let here = holds k no_column.layout (omega (arith, l, layouts)) in
    rw (e, ← get_or-map (λ (c : ColumnView). c.layout) columns k no_column no_column.layout l, ← column_back columns live k l (are.rows k no_column l)) here

-- where all columns are built anew from the live rows, the slots are the live ones
module _ (choices : List (ℕ × Choice)) (new old : List ColumnView) (live new_live : MaskRows) (are : AreColumns old live) (all : AllBuilt live choices new old) (rows : new_live.rows ≡ replicate (count_by (λ row. row) live.rows) true) where
  total : len new_live ≡ length (places live)
  total = ap length rows ∙ length-replicate (count_by (λ row. row) live.rows) true ∙ sym (count_places live)

  row_kept : (j : ℕ) → j < length (places live) → row_of new j ≡ row_of old (get_or (places live) j 0)
  row_kept j h =
      let i = get_or (places live) j 0 in
      let width : length (row_of old i) ≡ length old = length-map old (λ (column : ColumnView). value_at column.values i) in
      same_lists (row_of new j) (row_of old i) (length-map new (λ (column : ColumnView). value_at column.values j) ∙ all.count ∙ sym width) (λ k d l.
      let low : k < length old = omega (arith, length-map new (λ (column : ColumnView). value_at column.values j), all.count) in
      get_or-map (λ (column : ColumnView). value_at column.values j) new k no_column d (omega (arith, all.count))
      ∙ ap (λ values. value_at values j) (all.each k no_column low).values
      ∙ get_or-map (λ (p : ℕ). value_at (row_of old p) k) (places live) j 0 None h
      ∙ get_or_default (row_of old i) k None d (omega (arith, width)))

  live_there : (j : ℕ) → j < length (places live) → row_at new_live j ≡ true
  live_there j h = ap (λ xs. get_or xs j false) rows ∙ get_or-replicate (count_by (λ row. row) live.rows) j true false (omega (arith, count_places live))

  pub slots_built : slots_of new new_live ≡ filter (λ slot. slot.live) (slots_of old live)
  slots_built =
      let kept : map (slot_of old live) (places live) ≡ slots_of new new_live =
      made_is (len new_live) (slot_of new new_live) (map (slot_of old live) (places live)) (live_slot []) (length-map (places live) (slot_of old live) ∙ sym total) (λ j h.
      let l : j < length (places live) = omega (arith, total) in
      get_or-map (slot_of old live) (places live) j 0 (live_slot []) l ∙ rw (row_kept j l, live_there j l, places_in live j 0 l) refl) in
      sym (filter_mapped (λ slot. slot.live) (slot_of old live) (range_with_len 0 (len live)) ∙ kept)

  as_long_new : (k : ℕ) (d : ColumnView) → k < length old → length (get_or new k d).values ≡ len new_live
  as_long_new k d inside = ap length (all.each k d inside).values ∙ length-map (places live) (λ i. value_for (Column k) (row_of old i)) ∙ sym total

  pub columns_built : ((k : ℕ) (d : ColumnView) → k < length old → All (IsNullOrHeld (chosen_layout (choice_of choices k) (get_or old k d).layout)) (get_or old k d).values) → AreColumns new new_live
  columns_built held = record {
    rows = λ k d l. as_long_new k d (omega (arith, all.count));
    few = omega (arith, are.few, total, count_places live, count_by-le-length (λ row. row) live.rows);
    held = λ k d l.
        let inside : k < length old = omega (arith, l, all.count) in
        let layout = chosen_layout (choice_of choices k) (get_or old k d).layout in
        rw ((all.each k d inside).values, (all.each k d inside).layout, gathered_column old live k d inside) (all_chosen (IsNullOrHeld layout) live (get_or old k d).values tt (held k d inside));
  }

  pub are_rebuilt : AreRebuilt choices (view_of old live) (view_of new new_live)
  are_rebuilt = record {
    slots_are = slots_built;
    layouts_count = length-map new (λ (c : ColumnView). c.layout) ∙ all.count ∙ sym (length-map old (λ (c : ColumnView). c.layout));
    encodings_count = length-map new (λ (c : ColumnView). c.encoding) ∙ all.count ∙ sym (length-map old (λ (c : ColumnView). c.encoding));
    layouts_are = λ k d l.
        let low : k < length old = omega (arith, l, length-map old (λ (c : ColumnView). c.layout)) in
        let inside : k < length new = omega (arith, all.count) in
        get_or-map (λ (c : ColumnView). c.layout) new k no_column d inside ∙ (all.each k no_column low).layout ∙ ap (chosen_layout (choice_of choices k)) (sym (get_or-map (λ (c : ColumnView). c.layout) old k no_column d low));
    encodings_are = λ k e l.
        let low : k < length old = omega (arith, l, length-map old (λ (c : ColumnView). c.encoding)) in
        let inside : k < length new = omega (arith, all.count) in
        let built = all.each k no_column low in
        record {
          kind = ap kind_of (get_or-map (λ (c : ColumnView). c.encoding) new k no_column e inside) ∙ built.kind ∙ ap (λ x. chosen_kind (choice_of choices k) (kind_of x)) (sym (get_or-map (λ (c : ColumnView). c.encoding) old k no_column e low));
          fits = rw (column_back new new_live k inside (as_long_new k no_column low), get_or-map (λ (c : ColumnView). c.encoding) new k no_column e inside, built.values) built.fits;
        };
  }

pub live_count : (columns : List ColumnView) (live : MaskRows) → length (live_slots (slots_of columns live)) ≡ count_by (λ row. row) live.rows
live_count columns live = ap length (filter_mapped (λ (slot : Slot). slot.live) (slot_of columns live) (range_with_len 0 (len live))) ∙ length-map (places live) (slot_of columns live) ∙ count_places live
