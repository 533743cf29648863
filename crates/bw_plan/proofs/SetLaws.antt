-- Columns by their names and by their places, and the sets of an UPDATE.
use Rattle.std.proofs.Common.{◌≡◌, ◌≢◌, ◌∙◌, ℕ, ◌<◌, ◌==◌, Bool, true, false, List, [], ◌∷◌, get_or, length, map, not, Option, None, Some, zero, suc, refl, sym, ap, subst, arith}
use Rattle.std.specs.List.{All, AllPairs, list_all, list_any}
use Rattle.std.specs.Str.{bytes_eq}
use Rattle.std.proofs.lemmas.Bool.{eq-eqb, eqb-true, true≢false}
use Rattle.std.proofs.lemmas.List.{length-map}
use Rattle.std.proofs.lemmas.List.Elements.{All-cons, All-nil}
use Rattle.std.proofs.lemmas.List.Kept.{AllPairs-cons}
use Rattle.std.proofs.lemmas.List.Quantifiers.{position-Some}
use Rattle.std.proofs.lemmas.Slice.Eq.{bytes_eq-Decides}
use Rattle.bw_code.specs.Types.{is_null_or_of_type, types_of}
use Rattle.bw_code.proofs.Types.{null_or_of_type}
use Rattle.bw_sql.specs.declared.tree.Operand.{Operand}
use Rattle.bw_sql.specs.declared.tree.Operand.TheVariants as operand
use Rattle.bw_sql.specs.declared.tree.SetClause.{SetClause}
use Rattle.bw_table.specs.Changes.{IsSetTo, MayTake}
use Rattle.bw_table.specs.declared.setting.SetTo.{SetTo}
use Rattle.bw_table.specs.declared.setting.SetTo.TheVariants as to
use Rattle.bw_model.specs.Refusals.{may_be_set, set_columns}
use Rattle.bw_model.specs.Store.{AreHeaders, Header, Value, are_distinct, names, place_of, type_at, type_named}
use Rattle.bw_model.proofs.Passing.{neither, two}
use Rattle.bw_plan.specs.Plans.{source_at, source_of}
use Rattle.bw_plan.specs.Sets.{AreSetsFor, AreSettable, source_to}
use Rattle.bw_plan.specs.declared.plan.Source.{Source}
use Rattle.bw_plan.specs.declared.plan.Source.TheVariants.{Constant, Place}
use Rattle.bw_model.proofs.OwnPlaces.{get_or-mapped, place_at, place_of-names}

-- what passes nowhere doesn't pass at a place
pub none_at : {A B : Type 0} (p : B → Bool) (f : A → B) (xs : List A) (i : ℕ) (x : A) → list_any p (map f xs) ≡ false → i < length xs → x ≡ get_or xs i x → p (f x) ≡ false
none_at p f [] i x none within at = absurd (omega arith)
none_at p f (y ∷ xs) zero x none within at = ap (λ z. p (f z)) at ∙ (neither (p (f y)) (list_any p (map f xs)) none).0
none_at p f (y ∷ xs) (suc i) x none within at = none_at p f xs i x (neither (p (f y)) (list_any p (map f xs)) none).1 (omega arith) at

abbrev rest_of : {A : Type 0} → List A → List A
rest_of [] = []
rest_of (x ∷ xs) = xs

module _ (headers : List Header) (valid : AreHeaders headers) (k : ℕ) (header : Header) (within : k < length headers) (at : header ≡ get_or headers k header) where
  pub here : place_of headers header.name ≡ Some k
  here =
      let inside : k < length (names headers) = omega (arith, length-map headers (λ h. h.name)) in
      ap (place_of headers) (ap (λ h. h.name) at ∙ sym (get_or-mapped (λ h. h.name) headers k header [] within))
      ∙ place_of-names headers (get_or (names headers) k []) ∙ place_at (names headers) k [] valid.distinct inside

  module _ (column : List ℕ) (place : ℕ) (there : Some place ≡ place_of headers column) where
    this_column : bytes_eq header.name column ≡ true → (place == k) ≡ true
    this_column e =
        let same = (bytes_eq-Decides header.name column).0 e in
        let one : ◌≡◌ {A = Option ℕ} (Some place) (Some k) = there ∙ ap (place_of headers) (sym same) ∙ here in
        let equal : place ≡ k = cc in
        eq-eqb place k equal

    this_place : (place == k) ≡ true → bytes_eq header.name column ≡ true
    this_place e =
        let found = position-Some (λ h. bytes_eq column h.name) headers k header (sym there ∙ ap (λ n. Some n) (eqb-true place k e)) in
        let same = (bytes_eq-Decides column (get_or headers k header).name).0 found.1 in
        (bytes_eq-Decides header.name column).1 (ap (λ h. h.name) at ∙ sym same)

    alike : (b c : Bool) → (b ≡ true → c ≡ true) → (c ≡ true → b ≡ true) → b ≡ c
    alike true c f g = sym (f refl)
    alike false true f g = g refl
    alike false false f g = refl

    pub same_test : (place == k) ≡ bytes_eq header.name column
    same_test = alike (place == k) (bytes_eq header.name column) this_place this_column

-- The sets of an UPDATE that is not refused.

pub place_inside : (headers : List Header) (name : List ℕ) (k : ℕ) → place_of headers name ≡ Some k → k < length headers
place_inside [] name k e = absurd cc
place_inside (h ∷ headers) name k e = (position-Some (λ x. bytes_eq name x.name) (h ∷ headers) k h e).0

-- two names at one place are one name
one_name : (headers : List Header) (a b : List ℕ) (k : ℕ) → place_of headers a ≡ Some k → place_of headers b ≡ Some k → bytes_eq a b ≡ true
one_name [] a b k e f = absurd cc
one_name (h ∷ headers) a b k e f =
    let p = (position-Some (λ x. bytes_eq a x.name) (h ∷ headers) k h e).1 in
    let q = (position-Some (λ x. bytes_eq b x.name) (h ∷ headers) k h f).1 in
    (bytes_eq-Decides a b).1 ((bytes_eq-Decides a (get_or (h ∷ headers) k h).name).0 p ∙ sym ((bytes_eq-Decides b (get_or (h ∷ headers) k h).name).0 q))

module _ (headers : List Header) where
  by_place : (k : ℕ) (name : List ℕ) (o : Option ℕ) (set : SetTo) → place_of headers name ≡ o → source_to set ≡ source_at o → MayTake (types_of headers) k set
  by_place k name None (to.Value None) at e = tt
  by_place k name None (to.Value (Some x)) at e = absurd cc
  by_place k name None (to.Column j) at e = absurd cc
  by_place k name (Some i) (to.Value v) at e = absurd cc
  by_place k name (Some i) (to.Column j) at e =
      let same : i ≡ j = cc in
      let low = place_inside headers name j (at ∙ ap (λ n. Some n) same) in omega (arith, low, length-map headers (λ h. h.column_type))

  by_constant : (k : ℕ) (set : SetTo) (v : Value) → source_to set ≡ Constant v → is_null_or_of_type (type_at headers (Some k)) v ≡ true → MayTake (types_of headers) k set
  by_constant k (to.Value x) v e may =
      let same : ◌≡◌ {A = Value} x v = cc in null_or_of_type (type_at headers (Some k)) x (ap (is_null_or_of_type (type_at headers (Some k))) same ∙ may)
  by_constant k (to.Column j) v e may = absurd cc

  value_set : (k : ℕ) (set : SetTo) (source : Operand) → source_to set ≡ source_of headers source → may_be_set (type_at headers (Some k)) source ≡ true → MayTake (types_of headers) k set
  value_set k set (operand.Column name) e may = by_place k name (place_of headers name) set refl e
  value_set k set (operand.Constant v) e may = by_constant k set v e may

  first_set : (s : SetClause) (p : ℕ × SetTo) (sets : List SetClause) (placed : List (ℕ × SetTo)) → AreSetsFor headers (s ∷ sets) (p ∷ placed)
      → ◌≡◌ {A = Option ℕ × Source} (Some p.0, source_to p.1) (place_of headers s.column, source_of headers s.source)
  first_set s p sets placed e = ap (λ l. get_or l 0 (None, Place 0)) e

  named : (sets : List SetClause) (placed : List (ℕ × SetTo)) → AreSetsFor headers sets placed → All (λ set. set.0 < length headers) placed
  named sets [] e = All-nil (λ set. set.0 < length headers)
  named [] (p ∷ placed) e = absurd (omega (arith, ap length e))
  named (s ∷ sets) (p ∷ placed) e =
      All-cons (λ set. set.0 < length headers) p placed (place_inside headers s.column p.0 (sym (ap (λ q. q.0) (first_set s p sets placed e)))) (named sets placed (ap rest_of e))

  valued : (sets : List SetClause) (placed : List (ℕ × SetTo)) → AreSetsFor headers sets placed → list_all (λ set. may_be_set (type_named headers set.column) set.source) sets ≡ true → All (IsSetTo (types_of headers)) placed
  valued sets [] e may = All-nil (IsSetTo (types_of headers))
  valued [] (p ∷ placed) e may = absurd (omega (arith, ap length e))
  valued (s ∷ sets) (p ∷ placed) e may =
      let both = two (may_be_set (type_named headers s.column) s.source) (list_all (λ set. may_be_set (type_named headers set.column) set.source) sets) may in
      let first = first_set s p sets placed e in
      let here = subst (λ o. may_be_set (type_at headers o) s.source ≡ true) (sym (ap (λ q. q.0) first)) both.0 in
      All-cons (IsSetTo (types_of headers)) p placed (value_set p.0 p.1 s.source (ap (λ q. q.1) first) here) (valued sets placed (ap rest_of e) both.1)

  apart_from : (name : List ℕ) (k : ℕ) (sets : List SetClause) (placed : List (ℕ × SetTo)) → AreSetsFor headers sets placed → place_of headers name ≡ Some k
      → list_any (bytes_eq name) (set_columns sets) ≡ false → All (λ other. k ≢ other.0) placed
  apart_from name k sets [] e at none = All-nil (λ other. k ≢ other.0)
  apart_from name k [] (p ∷ placed) e at none = absurd (omega (arith, ap length e))
  apart_from name k (s ∷ sets) (p ∷ placed) e at none =
      let both = neither (bytes_eq name s.column) (list_any (bytes_eq name) (set_columns sets)) none in
      All-cons (λ other. k ≢ other.0) p placed
      (λ same. true≢false (sym (one_name headers name s.column k at (sym (ap (λ q. q.0) (first_set s p sets placed e)) ∙ ap (λ n. Some n) (sym same))) ∙ both.0))
      (apart_from name k sets placed (ap rest_of e) at both.1)

  set_apart : (sets : List SetClause) (placed : List (ℕ × SetTo)) → AreSetsFor headers sets placed → are_distinct (set_columns sets) ≡ true → AllPairs (λ set other. set.0 ≢ other.0) placed
  set_apart sets [] e distinct = λ i j d l m. absurd (omega (arith, m))
  set_apart [] (p ∷ placed) e distinct = absurd (omega (arith, ap length e))
  set_apart (s ∷ sets) (p ∷ placed) e distinct =
      let both = two (not (list_any (bytes_eq s.column) (set_columns sets))) (are_distinct (set_columns sets)) distinct in
      AllPairs-cons (λ (set : ℕ × SetTo) (other : ℕ × SetTo). set.0 ≢ other.0) p placed
      (apart_from s.column p.0 sets placed (ap rest_of e) (sym (ap (λ q. q.0) (first_set s p sets placed e))) (not_true (list_any (bytes_eq s.column) (set_columns sets)) both.0))
      (set_apart sets placed (ap rest_of e) both.1)
    where
      not_true : (b : Bool) → not b ≡ true → b ≡ false
      not_true true h = sym h
      not_true false h = refl

  pub settable : (sets : List SetClause) (placed : List (ℕ × SetTo)) → AreSetsFor headers sets placed → are_distinct (set_columns sets) ≡ true → list_all (λ set. may_be_set (type_named headers set.column) set.source) sets ≡ true → AreSettable headers placed
  settable sets placed e distinct may = record { named = named sets placed e; apart = set_apart sets placed e distinct; values = valued sets placed e may }
