-- Two columns that exchange their values.
use Rattle.std.proofs.Common.{List, None, Some, [], ap, arith, get_or, inl, inr, length, length-set, refl, set, subst, sym, true, ℕ, ◌<◌, ◌==◌, ◌≡◌, ◌≢◌, ◌∙◌, ◌∷◌}
use Rattle.std.specs.List.{All, AllPairs}
use Rattle.std.proofs.lemmas.Bool.{cases_eq, eq-eqb, ne_eqb}
use Rattle.std.proofs.lemmas.List.{get_or-set_other, get_or-set_same, get_or_default}
use Rattle.std.proofs.lemmas.Map.Entries.{lookup_head, lookup_tail}
use Rattle.bw_code.proofs.Meeting.{and_both}
use Rattle.bw_code.specs.Encodings.{same_encoding}
use Rattle.bw_code.specs.Sameness.{same_decides}
use Rattle.bw_code.specs.declared.kind.Layout.{Layout}
use Rattle.bw_code.specs.declared.kind.Layout.TheVariants as layouts
use Rattle.bw_column.specs.Costs.{are_alike, same_layout}
use Rattle.bw_table.specs.Changes.{set_of}
use Rattle.bw_mask.specs.Masks.{MaskRows}
use Rattle.bw_column.specs.Codes.{IsCoded}
use Rattle.bw_column.specs.Columns.{ColumnView}
use Rattle.bw_column.specs.Places.{chosen_values, overwritten}
use Rattle.bw_column.specs.Preparing.{IsEncodingFor}
use Rattle.bw_column.proofs.Ordered.{all_chosen}
use Rattle.bw_table.specs.Exchanges.{AreExchanged, AreExchangedBy}
use Rattle.bw_table.specs.Sets.{AllSet, IsWritten, gathered}
use Rattle.bw_table.specs.declared.column_pair.ColumnPair.{ColumnPair}
use Rattle.bw_table.specs.declared.setting.SetTo.{SetTo}
use Rattle.bw_table.specs.declared.setting.SetTo.TheVariants.{Column}
use Rattle.bw_table.proofs.Places.{gathered_column}

-- where two columns are exchanged by the sets, and have exchanged their values, all sets are made
pub exchanged_set : (found : MaskRows) (sets : List (ℕ × SetTo)) (new old : List ColumnView) (pair : ColumnPair) → AreExchangedBy sets old pair → AreExchanged found pair new old → AllSet found sets new old
exchanged_set found sets new old pair by is = record {
  count = is.count;
  each = λ k d.
      elim (cases_eq k pair.first) [
        | inl h ↦ rw (h, by.first) (is.first d)
        | inr m ↦
            elim (cases_eq k pair.second) [
              | inl h ↦ rw (h, by.second) (is.second d)
              | inr n ↦ rw (by.alone k m n, is.other k d m n) record { values = refl; layout = refl; encoding = refl; room = omega arith }
            ]
      ];
}

-- a column that took the values of another one of the same encoding
taken_from : (columns : List ColumnView) (found : MaskRows) (from : ℕ) (x own other : ColumnView) → from < length columns → ((c : ColumnView) → other ≡ get_or columns from c) → All (IsCoded own.encoding) other.values
    → x.values ≡ overwritten found (chosen_values found other.values) own.values → x.layout ≡ own.layout → x.encoding ≡ own.encoding → IsWritten x own found (gathered columns found (Column from))
taken_from columns found from x own other there other_is coded values layout encoding =
    let is : gathered columns found (Column from) ≡ chosen_values found other.values = gathered_column columns found from other there ∙ ap (λ (c : ColumnView). chosen_values found c.values) (sym (other_is other)) in
    let all : All (IsCoded own.encoding) (gathered columns found (Column from)) = rw is (all_chosen (IsCoded own.encoding) found other.values tt coded) in
    let stays : IsEncodingFor own.values own.encoding (gathered columns found (Column from)) x.encoding = record { stays = λ _. encoding; anew = λ none. absurd (none all) } in
    record {
      values_are = values ∙ ap (λ vs. overwritten found vs own.values) (sym is);
      layout = layout;
      encoding = stays;
    }

-- two columns that took each other's values
module _ (columns : List ColumnView) (found : MaskRows) (pair : ColumnPair) (x y own other : ColumnView) (there : pair.second < length columns)
    (own_is : (c : ColumnView) → own ≡ get_or columns pair.first c) (other_is : (c : ColumnView) → other ≡ get_or columns pair.second c)
    (same : other.encoding ≡ own.encoding) (own_coded : All (IsCoded own.encoding) own.values) (other_coded : All (IsCoded other.encoding) other.values)
    (values : x.values ≡ overwritten found (chosen_values found other.values) own.values) (layout : x.layout ≡ own.layout) (encoding : x.encoding ≡ own.encoding)
    (others : y.values ≡ overwritten found (chosen_values found own.values) other.values) (other_layout : y.layout ≡ other.layout) (other_encoding : y.encoding ≡ other.encoding) where
  first_there : pair.first < length columns
  first_there = omega (arith, there, pair.apart)

  before : pair.first ≢ pair.second
  before e = omega (arith, e, pair.apart)

  after : pair.second ≢ pair.first
  after e = omega (arith, e, pair.apart)

  first_written : IsWritten x own found (gathered columns found (Column pair.second))
  first_written = taken_from columns found pair.second x own other there other_is (subst (λ e. All (IsCoded e) other.values) same other_coded) values layout encoding

  second_written : IsWritten y other found (gathered columns found (Column pair.first))
  second_written = taken_from columns found pair.first y other own first_there own_is (subst (λ e. All (IsCoded e) own.values) (sym same) own_coded) others other_layout other_encoding

  pub are_exchanged : AreExchanged found pair (set (set columns pair.first x) pair.second y) columns
  are_exchanged =
      let one = set columns pair.first x in
      let long : length one ≡ length columns = length-set columns pair.first x in
      record {
        count = length-set one pair.second y ∙ long;
        first = λ c. rw (get_or-set_other one pair.second pair.first y c before, get_or-set_same columns pair.first x c first_there, ← own_is c) first_written;
        second = λ c. rw (get_or-set_same one pair.second y c (omega (arith, there, long)), ← other_is c) second_written;
        other = λ j c m n. get_or-set_other one pair.second j y c n ∙ get_or-set_other columns pair.first j x c m;
      }

two_list : {A : Type 0} (xs : List A) (d : A) → length xs ≡ 2 → xs ≡ get_or xs 0 d ∷ get_or xs 1 d ∷ []
two_list [] d e = absurd (omega (arith, e))
two_list (x ∷ []) d e = absurd (omega (arith, e))
two_list (x ∷ y ∷ []) d e = refl
two_list (x ∷ y ∷ z ∷ rest) d e = absurd (omega (arith, e))

one_layout : (a b : Layout) → same_layout a b ≡ true → b ≡ a
one_layout layouts.P layouts.P e = refl
one_layout layouts.P layouts.V e = absurd cc
one_layout layouts.P layouts.H e = absurd cc
one_layout layouts.P layouts.S e = absurd cc
one_layout layouts.V layouts.V e = refl
one_layout layouts.V layouts.P e = absurd cc
one_layout layouts.V layouts.H e = absurd cc
one_layout layouts.V layouts.S e = absurd cc
one_layout layouts.H layouts.H e = refl
one_layout layouts.H layouts.P e = absurd cc
one_layout layouts.H layouts.V e = absurd cc
one_layout layouts.H layouts.S e = absurd cc
one_layout layouts.S layouts.S e = refl
one_layout layouts.S layouts.P e = absurd cc
one_layout layouts.S layouts.V e = absurd cc
one_layout layouts.S layouts.H e = absurd cc

alike_parts : (a b : ColumnView) → are_alike a b ≡ true → (b.layout ≡ a.layout) × (b.encoding ≡ a.encoding)
alike_parts a b e =
    let both = and_both (same_layout a.layout b.layout) (same_encoding a.encoding b.encoding) e in
    (one_layout a.layout b.layout both.0, sym ((same_decides a.encoding b.encoding).0 both.1))

-- two sets, each of one column to the other's
module _ (columns : List ColumnView) (sets : List (ℕ × SetTo)) (two : length sets ≡ 2) (d : ℕ × SetTo) (apart : AllPairs (λ s t. s.0 ≢ t.0) sets)
    (to : (get_or sets 0 d).1 ≡ Column (get_or sets 1 d).0) (back : (get_or sets 1 d).1 ≡ Column (get_or sets 0 d).0)
    (there : (get_or sets 0 d).0 < length columns) (other_there : (get_or sets 1 d).0 < length columns) (x y : ColumnView)
    (alike : are_alike (get_or columns (get_or sets 0 d).0 x) (get_or columns (get_or sets 1 d).0 y) ≡ true) where
  abbrev s : ℕ × SetTo
  s = get_or sets 0 d

  abbrev t : ℕ × SetTo
  t = get_or sets 1 d

  differ : s.0 ≢ t.0
  differ e = apart 0 1 d (omega arith) (omega (arith, two)) e

  set_first : set_of sets s.0 ≡ Some (Column t.0)
  set_first = ap (λ xs. set_of xs s.0) (two_list sets d two) ∙ lookup_head (λ column. column == s.0) s (t ∷ []) (eq-eqb s.0 s.0 refl) ∙ ap Some to

  set_second : set_of sets t.0 ≡ Some (Column s.0)
  set_second =
      ap (λ xs. set_of xs t.0) (two_list sets d two) ∙ lookup_tail (λ column. column == t.0) s (t ∷ []) (ne_eqb s.0 t.0 differ)
      ∙ lookup_head (λ column. column == t.0) t [] (eq-eqb t.0 t.0 refl) ∙ ap Some back

  unset : (k : ℕ) → k ≢ s.0 → k ≢ t.0 → set_of sets k ≡ None
  unset k m n =
      ap (λ xs. set_of xs k) (two_list sets d two) ∙ lookup_tail (λ column. column == k) s (t ∷ []) (ne_eqb s.0 k (λ e. m (sym e)))
      ∙ lookup_tail (λ column. column == k) t [] (ne_eqb t.0 k (λ e. n (sym e)))

  same : (c : ColumnView) → ((get_or columns t.0 c).layout ≡ (get_or columns s.0 c).layout) × ((get_or columns t.0 c).encoding ≡ (get_or columns s.0 c).encoding)
  same c =
      let parts = alike_parts (get_or columns s.0 x) (get_or columns t.0 y) alike in
      rw (get_or_default columns s.0 c x there, get_or_default columns t.0 c y other_there) parts

  pub by_first : (below : s.0 < t.0) → AreExchangedBy sets columns (record { first = s.0; second = t.0; apart = below })
  by_first below = record {
    there = other_there;
    first = set_first;
    second = set_second;
    alone = unset;
    layout = λ c. (same c).0;
    encoding = λ c. (same c).1;
  }

  pub by_second : (below : t.0 < s.0) → AreExchangedBy sets columns (record { first = t.0; second = s.0; apart = below })
  by_second below = record {
    there = there;
    first = set_second;
    second = set_first;
    alone = λ k m n. unset k n m;
    layout = λ c. sym (same c).0;
    encoding = λ c. sym (same c).1;
  }
