-- Headers of columns that are laid anew.
use Rattle.std.proofs.Common.{◌≡◌, ◌∙◌, ℕ, ◌<◌, Bool, true, false, not, IsTrue, List, [], ◌∷◌, Option, None, Some, Result, Ok, Err, OnOk, OnErr, ap, arith, get_or, if◌then◌else◌, length, map, option_map, refl, subst, suc, sym, zero}
use Rattle.std.specs.List.{list_any}
use Rattle.std.specs.Str.{bytes_eq}
use Rattle.std.proofs.lemmas.Bool.{true≢false}
use Rattle.std.proofs.lemmas.List.{get_or-map, get_or_default, length-map, same_lists}
use Rattle.bw_code.specs.declared.kind.Kind.{Kind}
use Rattle.bw_code.specs.declared.kind.Layout.{Layout}
use Rattle.bw_sql.specs.declared.tree.KindWord.{KindWord}
use Rattle.bw_sql.specs.declared.tree.LayoutChoice.{LayoutChoice}
use Rattle.bw_table.specs.Changes.{choice_of, kind_or}
use Rattle.bw_table.specs.Tables.{AreChosen, HoldTypes, header_by}
use Rattle.bw_table.specs.declared.choice.Choice.{Choice}
use Rattle.bw_code.specs.Types.{holds_its_type}
use Rattle.bw_model.specs.Changes.{chosen_header}
use Rattle.bw_model.specs.Refusals.{is_too_narrow}
use Rattle.bw_model.proofs.Passing.{neither}
use Rattle.bw_model.specs.Store.{AreHeaders, Header, names, place_of}
use Rattle.bw_model.specs.Words.{kind_of, layout_of}
use Rattle.bw_model.specs.Words as words
use Rattle.bw_plan.specs.Sets.{AreChoicesFor}
use Rattle.bw_plan.proofs.SetLaws.{same_test}

first_of : (headers : List Header) (k : ℕ) → k < length headers → Header
first_of [] k l = absurd (omega (arith, l))
first_of (header ∷ headers) k l = header

module _ (choices : List (ℕ × Choice)) (old new : List Header) (are : AreChosen choices old new) where
  kept_names : names new ≡ names old
  kept_names =
      same_lists (names new) (names old) (length-map new (λ (h : Header). h.name) ∙ are.count ∙ sym (length-map old (λ (h : Header). h.name)))
      (λ k d l.
      let inside : k < length new = omega (arith, l, length-map new (λ (h : Header). h.name)) in
      let low : k < length old = omega (arith, inside, are.count) in
      let h = first_of old k low in
      get_or-map (λ (h : Header). h.name) new k h d inside ∙ ap (λ (h : Header). h.name) (are.each k h low) ∙ sym (get_or-map (λ (h : Header). h.name) old k h d low))

  pub still_headers : AreHeaders old → HoldTypes choices old → AreHeaders new
  still_headers valid hold = record {
    some = omega (arith, valid.some, are.count);
    few = omega (arith, valid.few, are.count);
    distinct = rw kept_names valid.distinct;
    held = λ k d l.
        let low : k < length old = omega (arith, l, are.count) in
        subst (λ (h : Header). IsTrue (holds_its_type h)) (sym (are.each k d low)) (hold k d low);
  }

kind_chosen : (kind : Option Kind) (word : Option KindWord) (own : Kind) → kind ≡ option_map kind_of word → kind_or kind own ≡ words.kind_or word own
kind_chosen kind None own e = ap (λ k. kind_or k own) e
kind_chosen kind (Some word) own e = ap (λ k. kind_or k own) e

abbrev rest_of : {A : Type 0} → List A → List A
rest_of [] = []
rest_of (x ∷ xs) = xs

abbrev Told : Type 0
Told = Option ℕ × (Layout × Option Kind)

-- what is chosen for a column by its place is what is chosen for it by its name
module _ (headers : List Header) (valid : AreHeaders headers) (k : ℕ) (h : Header) (within : k < length headers) (at : h ≡ get_or headers k h) where
  by_name : (clauses : List LayoutChoice) (placed : List (ℕ × Choice)) → AreChoicesFor headers clauses placed → header_by (choice_of placed k) h ≡ chosen_header clauses h
  by_name [] [] e = refl
  by_name [] (p ∷ placed) e = absurd (omega (arith, ap length e))
  by_name (c ∷ clauses) [] e = absurd (omega (arith, ap length e))
  by_name (c ∷ clauses) (p ∷ placed) e =
      ap (λ b. header_by (if b then Some p.1 else choice_of placed k) h) (same_test headers valid k h within at c.column p.0 (ap (λ q. q.0) first))
      ∙ by (bytes_eq h.name c.column) (by_name clauses placed (ap rest_of e))
    where
      first : ◌≡◌ {A = Told} (Some p.0, (p.1.layout, p.1.kind)) (place_of headers c.column, (layout_of c.layout, option_map kind_of c.kind))
      first = ap (λ l. get_or l 0 (None, (p.1.layout, None))) e

      chosen : header_by (Some p.1) h ≡ record { name = h.name; column_type = h.column_type; layout = layout_of c.layout; kind = words.kind_or c.kind h.kind }
      chosen =
          ap (λ l. record { name = h.name; column_type = h.column_type; layout = l; kind = kind_or p.1.kind h.kind }) (ap (λ q. q.1.0) first)
          ∙ ap (λ w. record { name = h.name; column_type = h.column_type; layout = layout_of c.layout; kind = w }) (kind_chosen p.1.kind c.kind h.kind (ap (λ q. q.1.1) first))

      by : (b : Bool) → header_by (choice_of placed k) h ≡ chosen_header clauses h → header_by (if b then Some p.1 else choice_of placed k) h ≡ (if b then record { name = h.name; column_type = h.column_type; layout = layout_of c.layout; kind = words.kind_or c.kind h.kind } else chosen_header clauses h)
      by true others = chosen
      by false others = others

pub chosen_headers_are : (choices : List (ℕ × Choice)) (clauses : List LayoutChoice) (old new : List Header) → AreHeaders old → AreChoicesFor old clauses choices → AreChosen choices old new
    → new ≡ map (chosen_header clauses) old
chosen_headers_are choices clauses old new valid placed are =
    same_lists new (map (chosen_header clauses) old) (are.count ∙ sym (length-map old (chosen_header clauses)))
    (λ k d l.
    let low : k < length old = omega (arith, l, are.count) in
    let h = get_or old k d in
    are.each k d low ∙ by_name old valid k h low (get_or_default old k d h low) clauses choices placed ∙ sym (get_or-map (chosen_header clauses) old k d d low))

-- where no column is too narrow as it is chosen to lie, each layout that is chosen holds the type
none_at : {A : Type 0} (p : A → Bool) (xs : List A) (k : ℕ) (d : A) → list_any p xs ≡ false → k < length xs → p (get_or xs k d) ≡ false
none_at p [] k d none low = absurd (omega (arith, low))
none_at p (x ∷ xs) zero d none low = (neither (p x) (list_any p xs) none).0
none_at p (x ∷ xs) (suc k) d none low = none_at p xs k d (neither (p x) (list_any p xs) none).1 (omega (arith, low))

wide_enough : (b : Bool) → not b ≡ false → b ≡ true
wide_enough true e = refl
wide_enough false e = absurd (true≢false e)

pub hold_types : (headers : List Header) (clauses : List LayoutChoice) (placed : List (ℕ × Choice)) → AreHeaders headers → AreChoicesFor headers clauses placed
    → list_any (λ header. is_too_narrow (chosen_header clauses header)) headers ≡ false → HoldTypes placed headers
hold_types headers clauses placed valid named wide k d low =
    let h = get_or headers k d in
    subst (λ (x : Header). holds_its_type x ≡ true) (sym (by_name headers valid k h low (get_or_default headers k d h low) clauses placed named))
    (wide_enough (holds_its_type (chosen_header clauses h)) (none_at (λ header. is_too_narrow (chosen_header clauses header)) headers k d wide low))

pub either_way : {T E A B C : Type 0} (r : Result T E) → (A → C) → (B → C) → OnOk r A → OnErr r B → C
either_way (Ok x) f g a b = f a
either_way (Err e) f g a b = g b
