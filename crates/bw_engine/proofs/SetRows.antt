-- What sets by places make of a row is what the sets by names make of it.
use Rattle.std.proofs.Common.{◌≡◌, ◌∙◌, ℕ, ◌<◌, ◌==◌, Bool, true, false, List, [], ◌∷◌, get_or, if◌then◌else◌, length, map, Option, None, Some, zero, suc, refl, sym, ap, arith}
use Rattle.std.specs.Prelude.{cond}
use Rattle.std.specs.Str.{bytes_eq}
use Rattle.std.proofs.lemmas.Bool.{eq-eqb, eqb-true}
use Rattle.std.proofs.lemmas.List.{get_or-map, length-map}
use Rattle.std.proofs.lemmas.List.Quantifiers.{position-Some}
use Rattle.std.proofs.lemmas.Slice.Eq.{bytes_eq-Decides}
use Rattle.bw_column.specs.Values as columns
use Rattle.bw_code.proofs.Lists.{made_is}
use Rattle.bw_table.specs.Changes.{new_value, row_with, set_of}
use Rattle.bw_table.specs.declared.setting.SetTo.{SetTo}
use Rattle.bw_table.specs.declared.setting.SetTo.TheVariants.{Column, Value}
use Rattle.bw_code.specs.declared.kind.ColumnType.TheVariants.{Integer}
use Rattle.bw_code.specs.declared.kind.Layout.TheVariants.{V}
use Rattle.bw_code.specs.declared.kind.Kind.TheVariants.{Offset}
use Rattle.bw_sql.specs.declared.tree.SetClause.{SetClause}
use Rattle.bw_model.specs.Changes.{source_for, updated_row}
use Rattle.bw_model.specs.Condition.{value_of}
use Rattle.bw_model.specs.Store.{AreHeaders, Header, Row, names, place_of, value_at}
use Rattle.bw_plan.specs.Plans.{source_at, source_of, value_by}
use Rattle.bw_plan.specs.Sets.{source_to}
use Rattle.bw_plan.specs.declared.plan.Source.{Source}
use Rattle.bw_plan.specs.declared.plan.Source.TheVariants.{Place}
use Rattle.bw_model.proofs.OwnPlaces.{place_at, place_of-names}
use Rattle.bw_plan.proofs.PlanLaws.{source_keeps}

-- a value of a row, in the words of a column and in those of the store
pub same_value : (row : Row) (k : ℕ) → columns.value_at row k ≡ value_at row k
same_value [] k = refl
same_value (v ∷ row) zero = refl
same_value (v ∷ row) (suc k) = same_value row k

pub no_header : Header
no_header = record { name = []; column_type = Integer; layout = V; kind = Offset }

-- where a value comes from; a place that isn't set keeps its own
abbrev source_or : Option SetTo → ℕ → Source
source_or None k = Place k
source_or (Some to) k = source_to to

pub given : (to : SetTo) (row : Row) (k : ℕ) → new_value (Some to) row k ≡ value_by (source_to to) row
given (Value x) row k = refl
given (Column place) row k = same_value row place

new_value_by : (to : Option SetTo) (row : Row) (k : ℕ) → new_value to row k ≡ value_by (source_or to k) row
new_value_by None row k = same_value row k
new_value_by (Some to) row k = given to row k

abbrev rest_of : {A : Type 0} → List A → List A
rest_of [] = []
rest_of (x ∷ xs) = xs

-- the sets of an UPDATE, each with the place of its column
abbrev AreSets : List Header → List SetClause → List (ℕ × SetTo) → Type 0
AreSets headers sets placed = ◌≡◌ {A = List (Option ℕ × Source)} (map (λ set. (Some set.0, source_to set.1)) placed) (map (λ set. (place_of headers set.column, source_of headers set.source)) sets)

module _ (headers : List Header) (valid : AreHeaders headers) (k : ℕ) (header : Header) (within : k < length headers) (at : get_or headers k no_header ≡ header) where
  here : place_of headers header.name ≡ Some k
  here =
      let inside : k < length (names headers) = omega (arith, length-map headers (λ (h : Header). h.name)) in
      ap (place_of headers) (ap (λ h. h.name) (sym at) ∙ sym (get_or-map (λ (h : Header). h.name) headers k no_header [] within))
      ∙ place_of-names headers (get_or (names headers) k []) ∙ place_at (names headers) k [] valid.distinct inside

  module _ (column : List ℕ) (place : ℕ) (there : Some place ≡ place_of headers column) where
    this_column : bytes_eq header.name column ≡ true → (place == k) ≡ true
    this_column e =
        let same = (bytes_eq-Decides header.name column).0 e in
        let one : ◌≡◌ {A = Option ℕ} (Some place) (Some k) = there ∙ ap (place_of headers) (sym same) ∙ here in
        let equal : place ≡ k = cc in
        eq-eqb place k equal

    this_place : (place == k) ≡ true → bytes_eq header.name column ≡ true
    this_place e =
        let found = position-Some (λ h. bytes_eq column h.name) headers k no_header (sym there ∙ ap (λ n. Some n) (eqb-true place k e)) in
        let same = (bytes_eq-Decides column (get_or headers k no_header).name).0 found.1 in
        (bytes_eq-Decides header.name column).1 (ap (λ h. h.name) (sym at) ∙ sym same)

    both_ways : (b c : Bool) → (b ≡ true → c ≡ true) → (c ≡ true → b ≡ true) → b ≡ c
    both_ways true c f g = sym (f refl)
    both_ways false true f g = g refl
    both_ways false false f g = refl

    same_test : (place == k) ≡ bytes_eq header.name column
    same_test = both_ways (place == k) (bytes_eq header.name column) this_place this_column

  by_sets : (sets : List SetClause) (placed : List (ℕ × SetTo)) → AreSets headers sets placed → source_or (set_of placed k) k ≡ source_of headers (source_for sets header.name)
  by_sets [] [] e = sym (ap source_at here)
  by_sets [] (p ∷ placed) e = absurd (omega (arith, ap length e))
  by_sets (s ∷ sets) [] e = absurd (omega (arith, ap length e))
  by_sets (s ∷ sets) (p ∷ placed) e =
      let first : ◌≡◌ {A = Option ℕ × Source} (Some p.0, source_to p.1) (place_of headers s.column, source_of headers s.source) = ap (λ l. get_or l 0 (None, Place 0)) e in
      ap (λ b. source_or (cond b (Some p.1) (set_of placed k)) k) (same_test s.column p.0 (ap (λ q. q.0) first))
      ∙ chosen (bytes_eq header.name s.column) (ap (λ q. q.1) first) (by_sets sets placed (ap rest_of e))
    where
      chosen : (b : Bool) → source_to p.1 ≡ source_of headers s.source → source_or (set_of placed k) k ≡ source_of headers (source_for sets header.name)
          → source_or (cond b (Some p.1) (set_of placed k)) k ≡ source_of headers (if b then s.source else source_for sets header.name)
      chosen true this others = this
      chosen false this others = others

pub row_with_sets : (headers : List Header) (sets : List SetClause) (placed : List (ℕ × SetTo)) (row : Row) → AreHeaders headers → length row ≡ length headers
    → ◌≡◌ {A = List (Option ℕ × Source)} (map (λ set. (Some set.0, source_to set.1)) placed) (map (λ set. (place_of headers set.column, source_of headers set.source)) sets)
    → row_with placed row ≡ updated_row headers sets row
row_with_sets headers sets placed row valid wide are =
    sym (made_is (length row) (λ k. new_value (set_of placed k) row k) (updated_row headers sets row) None
    (length-map headers (λ (header : Header). value_of headers row (source_for sets header.name)) ∙ sym wide)
    (λ k h.
    let within : k < length headers = omega (arith, h, wide) in
    let header = get_or headers k no_header in
    get_or-map (λ (header : Header). value_of headers row (source_for sets header.name)) headers k no_header None within
    ∙ sym (source_keeps headers row (source_for sets header.name))
    ∙ ap (λ source. value_by source row) (sym (by_sets headers valid k header within refl sets placed are))
    ∙ sym (new_value_by (set_of placed k) row k)))
