-- What an UPDATE copies in the found slots is what it copies in the found rows.
use Rattle.std.proofs.Common.{◌≡◌, ◌∙◌, ℕ, ◌+◌, ◌<◌, Bool, true, false, ◌&&◌, List, [], ◌∷◌, get_or, if◌then◌else◌, length, map, Option, None, Some, suc, refl, sym, ap, arith}
use Rattle.std.specs.Prelude.{option_map}
use Rattle.std.specs.List.{filter, list_all, range_with_len}
use Rattle.std.proofs.lemmas.List.{get_or-map, length-map}
use Rattle.bw_mask.specs.Masks.{MaskRows, len, row_at}
use Rattle.bw_code.specs.Types.{is_null_or_of_type, types_of}
use Rattle.bw_table.specs.Changes.{copies_fit, rows_found, sets_fit, value_for}
use Rattle.bw_table.specs.Slots.{Slot, live_slot, slot_at}
use Rattle.bw_table.specs.declared.setting.SetTo.{SetTo}
use Rattle.bw_sql.specs.Tree.{ConditionTree}
use Rattle.bw_sql.specs.declared.tree.SetClause.{SetClause}
use Rattle.bw_model.specs.Condition.{is_found, value_of}
use Rattle.bw_model.specs.Refusals.{fits_in}
use Rattle.bw_model.specs.Store.{Header, Row, place_of, type_at, type_named}
use Rattle.bw_plan.specs.Plans.{Plan, planned, source_of, value_by}
use Rattle.bw_plan.specs.Sets.{AreSetsFor, source_to}
use Rattle.bw_plan.specs.declared.plan.Source.{Source}
use Rattle.bw_plan.specs.declared.plan.Source.TheVariants.{Place}
use Rattle.bw_plan.proofs.PlanLaws.{source_keeps}
use Rattle.bw_engine.specs.Found.{rows_where}
use Rattle.bw_engine.specs.Stores.{AreFoundIn, rows_in, rows_of_slots}
use Rattle.bw_engine.proofs.LiveLaws.{where_condition}
use Rattle.bw_engine.proofs.SetRows.{given}

-- the rows at the places that pass, by their places and one after the other
places_where : (f : ℕ → Row) (test : ℕ → Bool) (a : ℕ) (rows : List Row) → ((i : ℕ) → i < length rows → f (a + i) ≡ get_or rows i [])
    → map f (filter test (range_with_len a (length rows))) ≡ rows_where (λ i. test (a + i)) rows
places_where f test a [] same = refl
places_where f test a (row ∷ rows) same =
    by (test a) first (rest (places_where f test (a + 1) rows (λ i h. ap f (next a i) ∙ same (suc i) (omega (arith, h))))) ∙ ap (λ b. if b then row ∷ rows_where (λ i. test (a + suc i)) rows else rows_where (λ i. test (a + suc i)) rows) (ap test (plain a))
  where
    plain : (n : ℕ) → n ≡ n + 0
    plain n = omega arith

    next : (n i : ℕ) → (n + 1) + i ≡ n + suc i
    next n i = omega arith

    first : f a ≡ row
    first = ap f (plain a) ∙ same 0 (omega arith)

    rest : map f (filter test (range_with_len (a + 1) (length rows))) ≡ rows_where (λ i. test ((a + 1) + i)) rows
        → map f (filter test (range_with_len (a + 1) (length rows))) ≡ rows_where (λ i. test (a + suc i)) rows
    rest others = others ∙ (λ j. rows_where (λ i. test (next a i j)) rows)

    by : (b : Bool) → f a ≡ row → map f (filter test (range_with_len (a + 1) (length rows))) ≡ rows_where (λ i. test (a + suc i)) rows
        → map f (if b then a ∷ filter test (range_with_len (a + 1) (length rows)) else filter test (range_with_len (a + 1) (length rows)))
        ≡ (if b then row ∷ rows_where (λ i. test (a + suc i)) rows else rows_where (λ i. test (a + suc i)) rows)
    by true here others = λ j. here j ∷ others j
    by false here others = others

-- the rows of the found slots
found_are : (slots : List Slot) (found : MaskRows) → len found ≡ length slots → rows_found found slots ≡ rows_where (row_at found) (rows_of_slots slots)
found_are slots found long =
    let rows = length-map slots (λ (slot : Slot). slot.row) in
    let count : len found ≡ length (rows_of_slots slots) = long ∙ sym rows in
    (λ j. map (λ i. (slot_at slots i).row) (filter (row_at found) (range_with_len 0 (count j))))
    ∙ places_where (λ i. (slot_at slots i).row) (row_at found) 0 (rows_of_slots slots)
    (λ i h. ap (λ n. (slot_at slots n).row) (none i) ∙ sym (get_or-map (λ (slot : Slot). slot.row) slots i (live_slot []) [] (omega (arith, h, rows))))
    ∙ (λ j. rows_where (λ i. row_at found (none i j)) (rows_of_slots slots))
  where
    none : (i : ℕ) → 0 + i ≡ i
    none i = omega arith

abbrev rest_of : {A : Type 0} → List A → List A
rest_of [] = []
rest_of (x ∷ xs) = xs

-- sets by places fit in a row where those by names do
sets_fit_in : (headers : List Header) (row : Row) (sets : List SetClause) (placed : List (ℕ × SetTo)) → AreSetsFor headers sets placed → sets_fit (types_of headers) placed row ≡ fits_in headers sets row
sets_fit_in headers row [] [] e = refl
sets_fit_in headers row [] (p ∷ placed) e = absurd (omega (arith, ap length e))
sets_fit_in headers row (s ∷ sets) [] e = absurd (omega (arith, ap length e))
sets_fit_in headers row (s ∷ sets) (p ∷ placed) e =
    let first : ◌≡◌ {A = Option ℕ × Source} (Some p.0, source_to p.1) (place_of headers s.column, source_of headers s.source) = ap (λ l. get_or l 0 (None, Place 0)) e in
    let types : type_at headers (Some p.0) ≡ type_named headers s.column = ap (λ (q : Option ℕ × Source). type_at headers q.0) first in
    let values : value_for p.1 row ≡ value_of headers row s.source = given p.1 row 0 ∙ ap (λ (q : Option ℕ × Source). value_by q.1 row) first ∙ source_keeps headers row s.source in
    (λ j. is_null_or_of_type (types j) (values j) && sets_fit_in headers row sets placed (ap rest_of e) j)

pub copies_are : (headers : List Header) (condition : Option ConditionTree) (plan : Option Plan) → plan ≡ option_map (planned headers) condition → (slots : List Slot) (found : MaskRows) → AreFoundIn slots plan found
    → (sets : List SetClause) (placed : List (ℕ × SetTo)) → AreSetsFor headers sets placed
    → copies_fit (types_of headers) found placed slots ≡ list_all (fits_in headers sets) (filter (is_found headers condition) (rows_in slots))
copies_are headers condition plan is slots found are sets placed named =
    ap (list_all (sets_fit (types_of headers) placed)) (found_are slots found are.0 ∙ where_condition headers condition plan is slots found are)
    ∙ (λ j. list_all (λ row. sets_fit_in headers row sets placed named j) (filter (is_found headers condition) (rows_in slots)))
