-- The headers of a table tell how its columns are kept.
use Rattle.std.proofs.Common.{IsTrue, List, Option, [], ◌∷◌, ap, arith, get_or, length, map, refl, subst, sym, true, ℕ, ℤ, ◌<◌, ◌∙◌, ◌≡◌}
use Rattle.std.proofs.lemmas.List.{get_or-map, length-map, same_lists}
use Rattle.std.specs.List.{All}
use Rattle.std.proofs.lemmas.List.Elements.{All-head, All-nil, All-tail}
use Rattle.bw_mask.specs.Masks.{MaskRows}
use Rattle.bw_code.specs.Encodings.{kind_of}
use Rattle.bw_code.specs.Types.{IsNullOrOfType, IsRowOf, holds_its_type, types_of}
use Rattle.bw_code.specs.declared.encoding.Encoding.{Encoding}
use Rattle.bw_code.specs.declared.header.Header.{Header}
use Rattle.bw_code.specs.declared.kind.ColumnType.TheVariants.{Integer}
use Rattle.bw_code.specs.declared.kind.Layout.{Layout}
use Rattle.bw_code.specs.declared.kind.Layout.TheVariants.{P}
use Rattle.bw_column.specs.Columns.{ColumnView}
use Rattle.bw_column.specs.Values.{IsNullOrHeld}
use Rattle.bw_table.specs.Changes.{AreRebuilt, HoldAsChosen, choice_of, chosen_kind, chosen_layout, copies_fit, rows_found, type_at, value_for}
use Rattle.bw_table.specs.Sets.{AreEmpty}
use Rattle.bw_table.specs.Slots.{AreColumns, IsHeldRow, SlotsView, slot_column}
use Rattle.bw_table.specs.Tables.{AreChosen, AreFirst, AreHeadersOf, HoldTypes, layouts, slots_in}
use Rattle.bw_table.specs.declared.choice.Choice.{Choice}
use Rattle.bw_table.specs.declared.setting.SetTo.{SetTo}
use Rattle.bw_table.proofs.Across.{no_column, slots_count, view_of}
use Rattle.bw_table.proofs.Copied.{fits_down}
use Rattle.bw_table.proofs.Held.{slots_down}
use Rattle.bw_table.proofs.Updated.{AreHeldSets}
use Rattle.bw_table.proofs.Typed.{AreTyped, all_held, null_or_held, typed_rebuilt}

abbrev laid : SlotsView → List Layout → SlotsView
laid slots ls = record slots { layouts = ls }

module _ {N : Type 0} where
  -- a list with an element has a first
  pub first_of : (headers : List (Header N)) (k : ℕ) → k < length headers → Header N
  first_of [] k l = absurd (omega (arith, l))
  first_of (header ∷ headers) k l = header

  -- headers are told by what they are at each place
  pub told : {B : Type 0} (f : Header N → B) (headers : List (Header N)) (xs : List B) → length headers ≡ length xs → ((k : ℕ) (h : Header N) (d : B) → k < length headers → f (get_or headers k h) ≡ get_or xs k d) → map f headers ≡ xs
  told f headers xs count each =
      same_lists (map f headers) xs (length-map headers f ∙ count) (λ k d l.
      let low : k < length headers = omega (arith, l, length-map headers f) in
      let h = first_of headers k low in
      get_or-map f headers k h d low ∙ each k h d low)

  pub layout_at : (headers : List (Header N)) (slots : SlotsView) → AreHeadersOf headers slots → (k : ℕ) (h : Header N) (d : Layout) → k < length headers → (get_or headers k h).layout ≡ get_or slots.layouts k d
  layout_at headers slots are k h d l = sym (get_or-map (λ (header : Header N). header.layout) headers k h d l) ∙ ap (λ xs. get_or xs k d) are.layouts_are

  pub kind_at : (headers : List (Header N)) (slots : SlotsView) → AreHeadersOf headers slots → (k : ℕ) (h : Header N) (e : Encoding) → k < length headers → k < length slots.encodings → (get_or headers k h).kind ≡ kind_of (get_or slots.encodings k e)
  kind_at headers slots are k h e l inside = sym (get_or-map (λ (header : Header N). header.kind) headers k h (kind_of e) l) ∙ ap (λ xs. get_or xs k (kind_of e)) are.kinds_are ∙ get_or-map kind_of slots.encodings k e (kind_of e) inside

  layouts_count : (headers : List (Header N)) (slots : SlotsView) → AreHeadersOf headers slots → length headers ≡ length slots.layouts
  layouts_count headers slots are = sym (length-map headers (λ (header : Header N). header.layout)) ∙ ap length are.layouts_are

  pub kinds_count : (headers : List (Header N)) (slots : SlotsView) → AreHeadersOf headers slots → length headers ≡ length slots.encodings
  kinds_count headers slots are = sym (length-map headers (λ (header : Header N). header.kind)) ∙ ap length are.kinds_are ∙ length-map slots.encodings kind_of

  type_of : (headers : List (Header N)) (k : ℕ) (h : Header N) → k < length headers → get_or (types_of headers) k h.column_type ≡ (get_or headers k h).column_type
  type_of headers k h l = get_or-map (λ (header : Header N). header.column_type) headers k h h.column_type l

  pub type_is : (headers : List (Header N)) (k : ℕ) (h : Header N) → k < length headers → type_at (types_of headers) k ≡ (get_or headers k h).column_type
  type_is headers k h l = get_or-map (λ (header : Header N). header.column_type) headers k h Integer l

  pub types_count : (headers : List (Header N)) → length (types_of headers) ≡ length headers
  types_count headers = length-map headers (λ (header : Header N). header.column_type)

  -- a column's values are of its type
  pub typed_column : (headers : List (Header N)) (slots : SlotsView) → AreHeadersOf headers slots → (k : ℕ) (h : Header N) → k < length headers → All (IsNullOrOfType (get_or headers k h).column_type) (slot_column slots.slots k)
  typed_column headers slots are k h l =
      subst (λ t. All (IsNullOrOfType t) (slot_column slots.slots k)) (type_of headers k h l)
      (slots_down IsNullOrOfType (types_of headers) slots.slots are.typed k h.column_type (omega (arith, l, types_count headers)))

  pub hold_as_chosen : (choices : List (ℕ × Choice)) (headers : List (Header N)) (slots : SlotsView) → AreHeadersOf headers slots → HoldTypes choices headers → HoldAsChosen choices slots
  hold_as_chosen choices headers slots are held k l low =
      let inside : k < length headers = omega (arith, low, layouts_count headers slots are) in
      let h = first_of headers k inside in
      let own = get_or headers k h in
      subst (λ x. All (IsNullOrHeld (chosen_layout (choice_of choices k) x)) (slot_column slots.slots k)) (layout_at headers slots are k h l inside)
      (all_held (chosen_layout (choice_of choices k) own.layout) own.column_type (slot_column slots.slots k) (held k h inside) (typed_column headers slots are k h inside))

  types_chosen : (choices : List (ℕ × Choice)) (headers chosen : List (Header N)) → AreChosen choices headers chosen → types_of chosen ≡ types_of headers
  types_chosen choices headers chosen by =
      told (λ (header : Header N). header.column_type) chosen (types_of headers) (by.count ∙ sym (types_count headers)) (λ k h d l.
      let low : k < length headers = omega (arith, l, by.count) in
      ap (λ (header : Header N). header.column_type) (by.each k h low) ∙ sym (get_or-map (λ (header : Header N). header.column_type) headers k h d low))

  row_held : (headers : List (Header N)) → All (λ header. IsTrue (holds_its_type header)) headers → (row : List (Option ℤ)) → IsRowOf (types_of headers) row → IsHeldRow (layouts headers) row
  row_held [] held [] of = tt
  row_held [] held (value ∷ row) of = absurd of
  row_held (header ∷ headers) held [] of = absurd of
  row_held (header ∷ headers) held (value ∷ row) of =
      (null_or_held header.layout header.column_type value (All-head (λ h. IsTrue (holds_its_type h)) header headers held) of.0, row_held headers (All-tail (λ h. IsTrue (holds_its_type h)) header headers held) row of.1)

  pub rows_held : (headers : List (Header N)) (slots : SlotsView) → AreHeadersOf headers slots → (rows : List (List (Option ℤ))) → All (IsRowOf (types_of headers)) rows → All (IsHeldRow slots.layouts) rows
  rows_held headers slots are rows typed i d l = subst (λ ls. IsHeldRow ls (get_or rows i d)) are.layouts_are (row_held headers are.held (get_or rows i d) (typed i d l))

  -- where copied values fit, each layout holds what its column is set to
  pub fits_held : (headers : List (Header N)) (slots : SlotsView) → AreHeadersOf headers slots → (found : MaskRows) (sets : List (ℕ × SetTo)) → All (λ set. set.0 < length headers) sets → copies_fit (types_of headers) found sets slots.slots ≡ true → AreHeldSets found sets slots
  fits_held headers slots are found sets named fit j s l =
      let set = get_or sets j s in
      let rows = rows_found found slots.slots in
      let values = map (value_for set.1) rows in
      let inside = named j s l in
      let h = first_of headers set.0 inside in
      let own = get_or headers set.0 h in
      let typed : All (IsNullOrOfType own.column_type) values = subst (λ t. All (IsNullOrOfType t) values) (type_is headers set.0 h inside) (fits_down (types_of headers) rows sets fit j s l) in
      subst (λ x. All (IsNullOrHeld x) values) (layout_at headers slots are set.0 h P inside) (all_held own.layout own.column_type values (are.held set.0 h inside) typed)

  -- slots that changed, where layouts and kinds are as before
  pub headers_kept : (headers : List (Header N)) (old new : SlotsView) → AreHeadersOf headers old → new.layouts ≡ old.layouts → map kind_of new.encodings ≡ map kind_of old.encodings → AreTyped (types_of headers) new.slots → AreHeadersOf headers new
  headers_kept headers old new are layouts kinds typed = record { layouts_are = are.layouts_are ∙ sym layouts; kinds_are = are.kinds_are ∙ sym kinds; typed = typed; held = are.held }

  -- headers with what is chosen, of slots that were rebuilt so
  pub headers_rebuilt : (choices : List (ℕ × Choice)) (headers chosen : List (Header N)) (old new : SlotsView) (e : Encoding) → AreHeadersOf headers old → AreChosen choices headers chosen → HoldTypes choices headers → AreRebuilt choices old new → AreHeadersOf chosen new
  headers_rebuilt choices headers chosen old new e are by held rebuilt =
      let some = layouts_count headers old are in
      let few = kinds_count headers old are in
      record {
        layouts_are = told (λ (header : Header N). header.layout) chosen new.layouts (omega (arith, by.count, some, rebuilt.layouts_count)) (λ k h d l.
            let low : k < length headers = omega (arith, l, by.count) in
            ap (λ (header : Header N). header.layout) (by.each k h low) ∙ ap (chosen_layout (choice_of choices k)) (layout_at headers old are k h d low) ∙ sym (rebuilt.layouts_are k d (omega (arith, low, some))));
        kinds_are = told (λ (header : Header N). header.kind) chosen (map kind_of new.encodings) (omega (arith, by.count, few, rebuilt.encodings_count, length-map new.encodings kind_of)) (λ k h d l.
            let low : k < length headers = omega (arith, l, by.count) in
            let inside : k < length old.encodings = omega (arith, low, few) in
            ap (λ (header : Header N). header.kind) (by.each k h low) ∙ ap (chosen_kind (choice_of choices k)) (kind_at headers old are k h e low inside) ∙ sym (rebuilt.encodings_are k e inside).kind ∙ sym (get_or-map kind_of new.encodings k e d (omega (arith, inside, rebuilt.encodings_count))));
        typed = rw (types_chosen choices headers chosen by, rebuilt.slots_are) (typed_rebuilt (types_of headers) old.slots are.typed);
        held = λ k h l. let low : k < length headers = omega (arith, l, by.count) in rw (by.each k h low) (held k h low);
      }

  pub nothing_chosen : (headers : List (Header N)) → AreChosen [] headers headers
  nothing_chosen headers = record { count = refl; each = λ k h l. refl }

  -- columns without values
  module _ (headers : List (Header N)) (columns : List ColumnView) (live : MaskRows) (none : live.rows ≡ []) (are : AreEmpty headers columns) where
    pub empty_columns : AreColumns columns live
    empty_columns = record {
      rows = λ k d l. ap length (are.each k (first_of headers k (omega (arith, l, are.count))) d (omega (arith, l, are.count))).values ∙ sym (ap length none);
      few = omega (arith, ap length none);
      held = λ k d l. rw (are.each k (first_of headers k (omega (arith, l, are.count))) d (omega (arith, l, are.count))).values (All-nil (IsNullOrHeld (get_or columns k d).layout));
    }

    pub empty_headers : All (λ header. IsTrue (holds_its_type header)) headers → AreHeadersOf headers (view_of columns live)
    empty_headers held = record {
      typed = λ i d l. absurd (omega (arith, l, slots_count columns live, ap length none));
      held = held;
      layouts_are = told (λ (header : Header N). header.layout) headers (map (λ c. c.layout) columns) (sym (length-map columns (λ (c : ColumnView). c.layout) ∙ are.count)) (λ k h d l. sym (get_or-map (λ (c : ColumnView). c.layout) columns k no_column d (omega (arith, l, are.count)) ∙ (are.each k h no_column l).layout));
      kinds_are = told (λ (header : Header N). header.kind) headers (map kind_of (map (λ c. c.encoding) columns)) (sym (length-map (map (λ c. c.encoding) columns) kind_of ∙ length-map columns (λ (c : ColumnView). c.encoding) ∙ are.count)) (λ k h d l.
          let inside : k < length columns = omega (arith, l, are.count) in
          sym (get_or-map kind_of (map (λ (c : ColumnView). c.encoding) columns) k no_column.encoding d (omega (arith, inside, length-map columns (λ (c : ColumnView). c.encoding))) ∙ ap kind_of (get_or-map (λ (c : ColumnView). c.encoding) columns k no_column no_column.encoding inside) ∙ (are.each k h no_column l).kind));
    }

    pub empty_first : AreFirst headers (map (λ c. c.encoding) columns)
    empty_first = record {
      count = length-map columns (λ (c : ColumnView). c.encoding) ∙ are.count;
      each = λ k h e l.
          let column = are.each k h no_column l in
          rw (get_or-map (λ (c : ColumnView). c.encoding) columns k no_column e (omega (arith, l, are.count))) record { kind = column.kind; fits = column.fits };
    }

  -- the slots of a table, by its headers
  pub slots_back : (headers : List (Header N)) (slots : SlotsView) → AreHeadersOf headers slots → slots_in (record { headers = headers; slots = slots.slots; encodings = slots.encodings }) ≡ slots
  slots_back headers slots are = ap (laid slots) are.layouts_are

  pub rebuilt_in : (choices : List (ℕ × Choice)) (headers chosen : List (Header N)) (old new : SlotsView) → AreHeadersOf headers old → AreHeadersOf chosen new → AreRebuilt choices old new → AreRebuilt choices (slots_in (record { headers = headers; slots = old.slots; encodings = old.encodings })) (slots_in (record { headers = chosen; slots = new.slots; encodings = new.encodings }))
  rebuilt_in choices headers chosen old new are are_new rebuilt =
      subst (λ (x : SlotsView). AreRebuilt choices x (slots_in (record { headers = chosen; slots = new.slots; encodings = new.encodings }))) (sym (slots_back headers old are))
      (subst (λ (y : SlotsView). AreRebuilt choices old y) (sym (slots_back chosen new are_new)) rebuilt)
