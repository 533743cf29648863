-- A statement makes one thing of slots and encodings, where it makes one thing of the store.
use Rattle.std.proofs.Common.{◌≡◌, ◌∙◌, ℕ, ◌+◌, ◌<◌, Bool, true, false, List, [], ◌∷◌, ◌++◌, if◌then◌else◌, get_or, length, map, nat_le, option_map, Option, None, Some, inl, inr, refl, sym, ap, subst, arith}
use Rattle.std.specs.List.{All}
use Rattle.std.specs.Map.{lookup, set_value}
use Rattle.std.specs.Str.{bytes_eq}
use Rattle.std.proofs.lemmas.Bool.{cases_Bool, true≢false}
use Rattle.std.proofs.lemmas.List.{append_cancel_left, get_or_default, same_lists}
use Rattle.bw_mask.specs.Masks.{MaskRows}
use Rattle.bw_code.specs.Encodings.{IsFit, same_encoding}
use Rattle.bw_code.specs.Sameness.{same_decides}
use Rattle.bw_code.specs.declared.encoding.Encoding.{Encoding}
use Rattle.bw_code.specs.declared.kind.Kind.{Kind}
use Rattle.bw_code.specs.declared.kind.Layout.{Layout}
use Rattle.bw_code.proofs.Fits.{one_fit}
use Rattle.bw_column.specs.Codes.{IsCoded}
use Rattle.bw_column.specs.Preparing.{IsEncodingFor}
use Rattle.bw_column.specs.Values.{known}
use Rattle.bw_table.specs.Changes.{AreAppended, AreInserted, AreRebuilt, Inserts, IsEncodingWith, places, set_of, slots_with, slots_without}
use Rattle.bw_table.specs.Slots.{Slot, SlotsView, live_slot, slot_at, slot_column, slot_limit}
use Rattle.bw_table.specs.Tables.{slots_in}
use Rattle.bw_table.specs.declared.choice.Choice.{Choice}
use Rattle.bw_table.specs.declared.setting.SetTo.{SetTo}
use Rattle.bw_table.specs.declared.setting.SetTo.TheVariants.{Column, Value}
use Rattle.bw_sql.specs.Tree.{ConditionTree, StatementTree, create_table, delete, drop_table, insert, list_tables, load, open_table, rebuild, save, select, stats, update}
use Rattle.bw_sql.specs.declared.tree.LayoutChoice.{LayoutChoice}
use Rattle.bw_sql.specs.declared.tree.SetClause.{SetClause}
use Rattle.bw_model.specs.Store.{Header, Row, Store, Table, Value as Cell}
use Rattle.bw_model.specs.declared.reply.Reply.{Reply}
use Rattle.bw_model.specs.declared.reply.Reply.TheVariants.{Count, Done, Refused, Rows, Units}
use Rattle.bw_plan.specs.Plans.{Plan, planned}
use Rattle.bw_plan.specs.Sets.{AreChoicesFor, AreSetsFor, source_to}
use Rattle.bw_plan.specs.declared.plan.Source.{Source}
use Rattle.bw_plan.specs.declared.plan.Source.TheVariants.{Constant, Place}
use Rattle.bw_engine.specs.StoredChanges.{BuildsAnew, ChangesStored, Grows, IsAdded, IsChanged, IsNew, KillsFound, LeavesStored, SetsFound}
use Rattle.bw_engine.specs.Stores.{AreFoundIn, Stored, StoredTable, rows_in, store_of, table_in}
use Rattle.bw_engine.proofs.LiveRows.{inserted_rows}
use Rattle.bw_engine.proofs.Steps.{stored_more}

-- encodings

-- of two ways to the same encoding, one is open
one_of : (d e : Encoding) (X : Type 0) → (X → d ≡ e) → ((X → ⊥) → d ≡ e) → d ≡ e
one_of d e X if_x if_not =
    elim (cases_Bool (same_encoding d e)) [
      | inl same ↦ (same_decides d e).0 same
      | inr other ↦ if_not (λ x. absurd (true≢false (sym ((same_decides d e).1 (if_x x)) ∙ other)))
    ]

one_encoding : (old values : List Cell) (own d e : Encoding) → IsEncodingFor old own values d → IsEncodingFor old own values e → d ≡ e
one_encoding old values own d e x y =
    one_of d e (All (IsCoded own) values) (λ all. x.stays all ∙ sym (y.stays all))
    (λ lacks. one_fit (known (old ++ values)) d e (x.anew lacks).0 (y.anew lacks).0 ((x.anew lacks).1 ∙ sym (y.anew lacks).1))

one_with : (rows : List Row) (to : Option SetTo) (old : List Cell) (own d e : Encoding) → IsEncodingWith rows to old own d → IsEncodingWith rows to old own e → d ≡ e
one_with rows None old own d e x y = x ∙ sym y
one_with rows (Some to) old own d e x y = one_encoding old _ own d e x y

-- slots

one_appended : (old a b : SlotsView) (rows : List Row) → AreAppended old rows a → AreAppended old rows b → a ≡ b
one_appended old a b rows x y =
    let encodings = same_lists a.encodings b.encodings (x.width ∙ sym y.width) (λ k d l.
    let low : k < length old.encodings = omega (arith, l, x.width) in
    one_encoding _ _ _ _ _ (x.encodings_are k d d low) (y.encodings_are k d d low)) in
    λ j. record { slots = (x.slots_are ∙ sym y.slots_are) j; layouts = (x.layouts_are ∙ sym y.layouts_are) j; encodings = encodings j }

one_rebuilt : (choices : List (ℕ × Choice)) (old a b : SlotsView) → AreRebuilt choices old a → AreRebuilt choices old b → a ≡ b
one_rebuilt choices old a b x y =
    let slots = x.slots_are ∙ sym y.slots_are in
    let layouts = same_lists a.layouts b.layouts (x.layouts_count ∙ sym y.layouts_count) (λ k d l.
    let low : k < length old.layouts = omega (arith, l, x.layouts_count) in
    x.layouts_are k d low ∙ sym (y.layouts_are k d low)) in
    let encodings = same_lists a.encodings b.encodings (x.encodings_count ∙ sym y.encodings_count) (λ k d l.
    let low : k < length old.encodings = omega (arith, l, x.encodings_count) in
    let p = x.encodings_are k d low in
    let q = y.encodings_are k d low in
    one_fit (known (slot_column a.slots k)) (get_or a.encodings k d) (get_or b.encodings k d) p.fits (subst (λ s. IsFit (known (slot_column s k)) (get_or b.encodings k d)) (sym slots) q.fits) (p.kind ∙ sym q.kind)) in
    λ j. record { slots = slots j; layouts = layouts j; encodings = encodings j }

one_by_room : (fits : Bool) (old a b : SlotsView) (rows : List Row) → Inserts fits old rows a → Inserts fits old rows b → a ≡ b
one_by_room true old a b rows x y = one_appended old a b rows x y
one_by_room false old a b rows x y =
    let compact = one_rebuilt [] old x.0 y.0 x.1 y.1 in
    one_appended y.0 a b rows (subst (λ c. AreAppended c rows a) compact x.2) y.2

one_inserted : (old a b : SlotsView) (rows : List Row) → AreInserted old rows a → AreInserted old rows b → a ≡ b
one_inserted old a b rows x y = one_by_room (nat_le (length old.slots + length rows) slot_limit) old a b rows x y

-- masks of the same rows
same_rows : (slots : List Slot) (plan : Option Plan) (f g : MaskRows) → AreFoundIn slots plan f → AreFoundIn slots plan g → f.rows ≡ g.rows
same_rows slots plan f g x y =
    same_lists f.rows g.rows (x.0 ∙ sym y.0) (λ k d l.
    let low : k < length slots = omega (arith, l, x.0) in
    get_or_default f.rows k d false l ∙ x.1 k low ∙ sym (y.1 k low) ∙ get_or_default g.rows k false d (omega (arith, low, y.0)))

abbrev of_rows : List Bool → MaskRows
of_rows rows = record { rows = rows; room = 0 }

-- what can be told back
module _ {A B : Type 0} (f : A → B) (g : B → A) (back : (x : A) → g (f x) ≡ x) where
  all_back : (xs : List A) → map g (map f xs) ≡ xs
  all_back [] = refl
  all_back (x ∷ xs) = λ j. back x j ∷ all_back xs j

  one_list : (xs ys : List A) → map f xs ≡ map f ys → xs ≡ ys
  one_list xs ys e = sym (all_back xs) ∙ ap (map g) e ∙ all_back ys

abbrev place_by : Option ℕ → ℕ
place_by None = 0
place_by (Some place) = place

abbrev to_by : Source → SetTo
to_by (Constant value) = Value value
to_by (Place place) = Column place

to_back : (to : SetTo) → to_by (source_to to) ≡ to
to_back (Value value) = refl
to_back (Column place) = refl

one_sets : (headers : List Header) (clauses : List SetClause) (a b : List (ℕ × SetTo)) → AreSetsFor headers clauses a → AreSetsFor headers clauses b → a ≡ b
one_sets headers clauses a b x y =
    one_list (λ (set : ℕ × SetTo). (Some set.0, source_to set.1)) (λ (p : Option ℕ × Source). (place_by p.0, to_by p.1)) (λ set j. (set.0, to_back set.1 j)) a b (x ∙ sym y)

abbrev choice_by : Option ℕ × (Layout × Option Kind) → ℕ × Choice
choice_by p = (place_by p.0, record { layout = p.1.0; kind = p.1.1 })

one_choices : (headers : List Header) (clauses : List LayoutChoice) (a b : List (ℕ × Choice)) → AreChoicesFor headers clauses a → AreChoicesFor headers clauses b → a ≡ b
one_choices headers clauses a b x y =
    one_list (λ (choice : ℕ × Choice). (Some choice.0, (choice.1.layout, choice.1.kind))) choice_by (λ choice. refl) a b (x ∙ sym y)

-- tables

module _ (a b : StoredTable) (same : table_in a ≡ table_in b) where
  headers_same : a.headers ≡ b.headers
  headers_same = ap (λ (t : Table). t.headers) same

  rows_same : rows_in a.slots ≡ rows_in b.slots
  rows_same = ap (λ (t : Table). t.rows) same

  by_parts : a.slots ≡ b.slots → a.encodings ≡ b.encodings → a ≡ b
  by_parts slots encodings = λ j. record { headers = headers_same j; slots = slots j; encodings = encodings j }

  by_view : slots_in a ≡ slots_in b → a ≡ b
  by_view view = by_parts (ap (λ (v : SlotsView). v.slots) view) (ap (λ (v : SlotsView). v.encodings) view)

  one_new : IsNew a → IsNew b → a ≡ b
  one_new x y =
      let slots = x.live ∙ ap (map live_slot) rows_same ∙ sym y.live in
      let encodings = same_lists a.encodings b.encodings (x.count ∙ ap length headers_same ∙ sym y.count) (λ k d l.
      let low : k < length a.headers = omega (arith, l, x.count) in
      let h = first a.headers (omega (arith, low)) in
      let p = x.fitted k h d low in
      let q = y.fitted k h d (subst (λ hs. k < length hs) headers_same low) in
      one_fit (known (slot_column a.slots k)) (get_or a.encodings k d) (get_or b.encodings k d) p.fits (subst (λ s. IsFit (known (slot_column s k)) (get_or b.encodings k d)) (sym slots) q.fits)
      (p.kind ∙ ap (λ (hs : List Header). (get_or hs k h).kind) headers_same ∙ sym q.kind)) in
      by_parts slots encodings
    where
      first : (headers : List Header) → 0 < length headers → Header
      first [] l = absurd (omega (arith, l))
      first (header ∷ headers) l = header

  module _ (old : StoredTable) where
    one_growth : Grows old a → Grows old b → a ≡ b
    one_growth x y =
        let rows : x.rows ≡ y.rows =
        append_cancel_left (rows_in old.slots) x.rows y.rows (sym (inserted_rows (slots_in old) (slots_in a) x.rows x.inserted) ∙ rows_same ∙ inserted_rows (slots_in old) (slots_in b) y.rows y.inserted) in
        by_view (one_inserted (slots_in old) (slots_in a) (slots_in b) y.rows (subst (λ rows. AreInserted (slots_in old) rows (slots_in a)) rows x.inserted) y.inserted)

    one_killing : (condition : Option ConditionTree) → KillsFound condition old a → KillsFound condition old b → a ≡ b
    one_killing condition x y =
        let rows = same_rows old.slots (option_map (planned old.headers) condition) x.found y.found x.are y.are in
        by_parts (x.slots ∙ ap (λ r. slots_without (of_rows r) old.slots) rows ∙ sym y.slots) (x.encodings ∙ sym y.encodings)

    one_building : (clauses : List LayoutChoice) → BuildsAnew clauses old a → BuildsAnew clauses old b → a ≡ b
    one_building clauses x y =
        let choices = one_choices old.headers clauses x.choices y.choices x.named y.named in
        by_view (one_rebuilt y.choices (slots_in old) (slots_in a) (slots_in b) (subst (λ c. AreRebuilt c (slots_in old) (slots_in a)) choices x.rebuilt) y.rebuilt)

    one_setting : (clauses : List SetClause) (condition : Option ConditionTree) → SetsFound clauses condition old a → SetsFound clauses condition old b → a ≡ b
    one_setting clauses condition x y =
        let rows = same_rows old.slots (option_map (planned old.headers) condition) x.found y.found x.are y.are in
        let sets = one_sets old.headers clauses x.sets y.sets x.named y.named in
        let slots = x.updated.slots_are ∙ (λ j. slots_with (of_rows (rows j)) (sets j) old.slots) ∙ sym y.updated.slots_are in
        let encodings = same_lists a.encodings b.encodings (x.updated.width ∙ sym y.updated.width) (λ k d l.
        let low : k < length old.encodings = omega (arith, l, x.updated.width) in
        one_with (map (λ i. (slot_at old.slots i).row) (places y.found)) (set_of y.sets k) (slot_column old.slots k) (get_or old.encodings k d) (get_or a.encodings k d) (get_or b.encodings k d)
        (subst (λ s. IsEncodingWith (map (λ i. (slot_at old.slots i).row) (places y.found)) (set_of s k) (slot_column old.slots k) (get_or old.encodings k d) (get_or a.encodings k d)) sets
        (subst (λ r. IsEncodingWith (map (λ i. (slot_at old.slots i).row) (places (of_rows r))) (set_of x.sets k) (slot_column old.slots k) (get_or old.encodings k d) (get_or a.encodings k d)) rows
        (x.updated.encodings_are k d d low)))
        (y.updated.encodings_are k d d low)) in
        by_parts slots encodings

-- the tables

abbrev last_of : Store → Table → Table
last_of [] otherwise = otherwise
last_of (entry ∷ more) otherwise = entry.1

abbrev rest_of : Store → Store
rest_of [] = []
rest_of (entry ∷ more) = more

one_added : (tables after left : Stored) (name : List ℕ) → IsAdded tables name after → IsAdded tables name left → store_of after ≡ store_of left → after ≡ left
one_added tables after left name x y same =
    let more = sym (ap store_of x.added ∙ stored_more tables name x.table) ∙ same ∙ ap store_of y.added ∙ stored_more tables name y.table in
    let last = append_cancel_left (store_of tables) _ _ more in
    let table = one_new x.table y.table (ap (λ s. last_of s (table_in x.table)) last) x.is_new y.is_new in
    x.added ∙ ap (λ t. tables ++ (name, t) ∷ []) table ∙ sym y.added

same_set : (tables : Stored) (name : List ℕ) (old a b : StoredTable) → lookup (bytes_eq name) tables ≡ Some old → store_of (set_value (bytes_eq name) tables a) ≡ store_of (set_value (bytes_eq name) tables b) → table_in a ≡ table_in b
same_set [] name old a b there same = cc
same_set (entry ∷ tables) name old a b there same = by (bytes_eq name entry.0) there same (same_set tables name old a b)
  where
    by : (e : Bool) → (if e then Some entry.1 else lookup (bytes_eq name) tables) ≡ Some old
        → store_of (if e then (entry.0, a) ∷ tables else entry ∷ set_value (bytes_eq name) tables a) ≡ store_of (if e then (entry.0, b) ∷ tables else entry ∷ set_value (bytes_eq name) tables b)
        → (lookup (bytes_eq name) tables ≡ Some old → store_of (set_value (bytes_eq name) tables a) ≡ store_of (set_value (bytes_eq name) tables b) → table_in a ≡ table_in b) → table_in a ≡ table_in b
    by true here same deeper = ap (λ s. last_of s (table_in a)) same
    by false here same deeper = deeper here (ap rest_of same)

one_changed : (Change : StoredTable → StoredTable → Type 0) (tables after left : Stored) (name : List ℕ) → ((old a b : StoredTable) → table_in a ≡ table_in b → Change old a → Change old b → a ≡ b)
    → IsChanged Change tables name after → IsChanged Change tables name left → store_of after ≡ store_of left → after ≡ left
one_changed Change tables after left name one x y same =
    let both : Some x.old ≡ Some y.old = sym x.there ∙ y.there in
    let old : x.old ≡ y.old = cc in
    let tables_in = same_set tables name x.old x.new y.new x.there (sym (ap store_of x.set) ∙ same ∙ ap store_of y.set) in
    let new = one y.old x.new y.new tables_in (subst (λ o. Change o x.new) old x.changed) y.changed in
    x.set ∙ ap (set_value (bytes_eq name) tables) new ∙ sym y.set

one_change : (tables after left : Stored) (tree : StatementTree) → ChangesStored tables tree after → ChangesStored tables tree left → store_of after ≡ store_of left → after ≡ left
one_change tables after left (create_table name columns) x y same = one_added tables after left name x y same
one_change tables after left (drop_table name) x y same = x ∙ sym y
one_change tables after left list_tables x y same = x ∙ sym y
one_change tables after left (insert name listed rows) x y same = one_changed Grows tables after left name (λ old a b e. one_growth a b e old) x y same
one_change tables after left (update name sets condition) x y same = one_changed (SetsFound sets condition) tables after left name (λ old a b e. one_setting a b e old sets condition) x y same
one_change tables after left (delete name condition) x y same = one_changed (KillsFound condition) tables after left name (λ old a b e. one_killing a b e old condition) x y same
one_change tables after left (rebuild name choices) x y same = one_changed (BuildsAnew choices) tables after left name (λ old a b e. one_building a b e old choices) x y same
one_change tables after left (select query) x y same = x ∙ sym y
one_change tables after left (stats query) x y same = x ∙ sym y
one_change tables after left (load name file first) x y same = one_changed Grows tables after left name (λ old a b e. one_growth a b e old) x y same
one_change tables after left (save name file) x y same = x ∙ sym y
one_change tables after left (open_table name file) x y same = one_added tables after left name x y same

-- a reply and a store tell the slots and the encodings
pub one_stored : (tables after left : Stored) (tree : StatementTree) (reply : Reply) → LeavesStored tables tree reply after → LeavesStored tables tree reply left → store_of after ≡ store_of left → after ≡ left
one_stored tables after left tree (Refused refusal) x y same = x ∙ sym y
one_stored tables after left tree Done x y same = one_change tables after left tree x y same
one_stored tables after left tree (Count n) x y same = one_change tables after left tree x y same
one_stored tables after left tree (Rows shown) x y same = one_change tables after left tree x y same
one_stored tables after left tree (Units n) x y same = one_change tables after left tree x y same
