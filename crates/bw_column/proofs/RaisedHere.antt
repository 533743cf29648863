-- Codes that rise where they lie, for one entry more.
use Rattle.std.proofs.Common.{[], All, Bool, List, None, Option, Some, ap, arith, false, get_or, if◌then◌else◌, inl, inr, is_some, length, nat_le, pos, refl, subst, sym, true, ℕ, ℤ, ◌&&◌, ◌+◌, ◌++◌, ◌-◌, ◌-ℤ◌, ◌<◌, ◌^◌, ◌≡◌, ◌≤◌, ◌∙◌, ◌∷◌}
use Rattle.std.specs.Prelude.{Contains, unwrap_or, ◌↔◌}
use Rattle.std.proofs.lemmas.Bool.{cases_eq, cases_lt}
use Rattle.std.proofs.lemmas.Bool.Decides.{nat_tests}
use Rattle.std.proofs.lemmas.Int.{ints}
use Rattle.std.proofs.lemmas.List.{get_or_default}
use Rattle.std.proofs.lemmas.List.Edits.{get_or-insert_above, get_or-insert_at, get_or-insert_below, length-insert}
use Rattle.std.proofs.lemmas.List.Elements.{Contains-append_cases, Contains-append_left, Contains-append_right, filter_map-append}
use Rattle.bw_mask.specs.Masks.{MaskRows, len, row_at}
use Rattle.bw_code.specs.Columns.{CodeList, code_at, count}
use Rattle.bw_code.specs.Encodings.{AreCodes, AreDistinct, IsEncoding, IsFit, code_of, kind_of, width}
use Rattle.bw_code.specs.Shifts.{StaysBelow, shifted}
use Rattle.bw_code.specs.declared.encoding.Encoding.{Encoding}
use Rattle.bw_code.specs.declared.encoding.Encoding.TheVariants as by
use Rattle.bw_code.specs.declared.kind.Kind.TheVariants as kinds
use Rattle.bw_code.specs.declared.kind.Layout.{Layout}
use Rattle.bw_code.proofs.Entries.{entry_at}
use Rattle.bw_code.proofs.Lists.{made_is, made_len}
use Rattle.bw_dictionary.specs.Adding.{IsEntryAdded}
use Rattle.bw_dictionary.specs.Merging.{StandsAt, StandsIn}
use Rattle.bw_column.specs.Codes.{AreRowCodes, IsCoded, IsRowCode, code_for, value_from, values_from}
use Rattle.bw_column.specs.Columns.{ColumnView, Keeps}
use Rattle.bw_column.specs.Preparing.{CanRaise, IsEncodingFor}
use Rattle.bw_column.specs.declared.entry_step.Raise.{Raise as RaiseView}
use Rattle.bw_column.specs.Values.{IsNullOrHeld, known, value_at}
use Rattle.bw_column.proofs.Changed.{code_fits}
use Rattle.bw_column.proofs.Held.{all_storable}
use Rattle.bw_column.proofs.Rows.{back, known_rows, row_codes}
use Rattle.bw_column.proofs.Standing.{entry_of}

-- a column whose values all have codes in another encoding: by one more in the rows above, and the same in the others
module _ {l : Layout} (own e : Encoding) (codes : CodeList) (nonnull above : MaskRows) (values : List (Option ℤ)) (are : AreRowCodes l own codes nonnull) (view_is : values_from own codes nonnull ≡ values)
    (sound : IsEncoding e) (same : width e ≡ width own) (coded : All (IsCoded e) values)
    (rise : (i : ℕ) → i < length values → code_for e (value_at values i) ≡ code_for own (value_at values i) + (if row_at above i then 1 else 0)) where
  many : length values ≡ count codes
  many = ap length (sym view_is) ∙ made_len (count codes) (λ i. value_from own (code_at codes i) (row_at nonnull i))

  -- the rows above are as many as the codes
  pub raised_count : len above ≡ length values → len above ≡ count codes
  raised_count is = is ∙ many

  code_here : (i : ℕ) → code_at codes i ≡ code_for own (value_at values i)
  code_here i = row_codes own codes nonnull are i ∙ ap (λ vs. code_for own (value_at vs i)) view_is

  risen : (i : ℕ) → i < count codes → shifted (pos 1 -ℤ pos 0) (row_at above i) (code_at codes i) ≡ pos (code_for e (value_at values i))
  risen i h = by (row_at above i) (rise i (omega (arith, h, many)))
    where
      by : (b : Bool) → code_for e (value_at values i) ≡ code_for own (value_at values i) + (if b then 1 else 0) → shifted (pos 1 -ℤ pos 0) b (code_at codes i) ≡ pos (code_for e (value_at values i))
      by true is = let here = code_here i in omega (arith, ints, is, here)
      by false is = let here = code_here i in omega (arith, ints, is, here)

  pub raised_fits : (i : ℕ) → i < count codes → StaysBelow (2 ^ width own) (shifted (pos 1 -ℤ pos 0) (row_at above i) (code_at codes i))
  raised_fits i h =
      let low : code_for e (value_at values i) < 2 ^ width e = code_fits e sound (value_at values i) (coded i None (omega (arith, h, many))) in
      let low_here : code_for e (value_at values i) < 2 ^ width own = subst (λ (k : ℕ). code_for e (value_at values i) < 2 ^ k) same low in
      rw (risen i h) (omega (arith, ints), omega (arith, ints, low_here))

  module _ (new : CodeList) (width_is : new.width ≡ width own) (count_is : count new ≡ count codes) (each : (i : ℕ) → i < count codes → pos (code_at new i) ≡ shifted (pos 1 -ℤ pos 0) (row_at above i) (code_at codes i)) where
    new_code : (i : ℕ) → i < count codes → code_at new i ≡ code_for e (value_at values i)
    new_code i h = let is = each i h ∙ risen i h in omega (arith, ints, is)

    held : All (IsNullOrHeld l) values
    held = subst (All (IsNullOrHeld l)) view_is are.held

    back_here : (i : ℕ) → i < count codes → (value_from e (code_at new i) (row_at nonnull i) ≡ value_at values i) × IsRowCode e (code_at new i) (row_at nonnull i)
    back_here i h =
        let low : i < length values = omega (arith, h, many) in
        let v = value_at values i in
        let is = back e sound v (coded i None low) (all_storable l values held i None low) in
        let there : row_at nonnull i ≡ is_some v = known_rows own codes nonnull are i ∙ ap (λ vs. is_some (value_at vs i)) view_is in
        rw (new_code i h, there) (is.0, is.1)

    pub raised_values_here : values_from e new nonnull ≡ values
    raised_values_here =
        let f : ℕ → Option ℤ = λ i. value_from e (code_at new i) (row_at nonnull i) in
        sym (made_is (count new) f values None (many ∙ sym count_is) (λ i h. sym (back_here i (omega (arith, h, count_is))).0))

    pub raised_codes_here : AreRowCodes l e new nonnull
    raised_codes_here = record {
      sound = sound;
      len = are.len ∙ sym count_is;
      narrow = omega (arith, same, are.narrow);
      width = width_is ∙ sym same;
      few = omega (arith, count_is, are.few);
      each = λ i h. (back_here i (omega (arith, h, count_is))).1;
      held = subst (All (IsNullOrHeld l)) (sym raised_values_here) held;
    }

-- an entry put among those of a dictionary
module _ (entries all : List ℤ) (x : ℤ) (n : ℕ) (added : IsEntryAdded entries x all n) where
  long : length all ≡ length entries + 1
  long = ap length added.are ∙ length-insert entries n x added.inside

  before : (k : ℕ) → k < n → get_or all k (pos 0) ≡ get_or entries k (pos 0)
  before k h = ap (λ xs. get_or xs k (pos 0)) added.are ∙ get_or-insert_below entries n x (pos 0) k h added.inside

  here : get_or all n (pos 0) ≡ x
  here = ap (λ xs. get_or xs n (pos 0)) added.are ∙ get_or-insert_at entries n x (pos 0) added.inside

  after : (k : ℕ) → n ≤ k → get_or all (k + 1) (pos 0) ≡ get_or entries k (pos 0)
  after k h = ap (λ xs. get_or xs (k + 1) (pos 0)) added.are ∙ get_or-insert_above entries n x (pos 0) k h added.inside

  pub new_code_is : code_of (by.Dictionary all) x ≡ Some n
  new_code_is = entry_at all x n added.ascending (omega (arith, long, added.inside)) here

  pub new_codes : AreCodes (code_of (by.Dictionary all)) (x ∷ []) (n ∷ [])
  new_codes = record { count = refl; each = λ i h. let first : i ≡ 0 = omega (arith, h) in rw first new_code_is }

  -- the code of an entry, after the new one came
  pub code_after : (y : ℤ) (m : ℕ) → m < length entries → get_or entries m (pos 0) ≡ y → code_of (by.Dictionary all) y ≡ Some (m + (if nat_le n m then 1 else 0))
  code_after y m h is =
      elim (cases_lt m n) [
        | inl low ↦
            let test : nat_le n m ≡ false = grind (arith, nat_tests, low) in
            let none : m + 0 ≡ m = omega arith in
            rw (test, none) (entry_at all y m added.ascending (omega (arith, long, h)) (before m low ∙ is))
        | inr high ↦
            let test : nat_le n m ≡ true = grind (arith, nat_tests, high) in
            rw test (entry_at all y (m + 1) added.ascending (omega (arith, long, h)) (after m high ∙ is))
      ]

  has_old : (m : ℕ) (y : ℤ) → m < length entries → get_or entries m (pos 0) ≡ y → Contains all y
  has_old m y h is =
      elim (cases_lt m n) [
        | inl low ↦ let inside : m < length all = omega (arith, long, h) in (m, inside, get_or_default all m y (pos 0) inside ∙ before m low ∙ is)
        | inr high ↦ let inside : m + 1 < length all = omega (arith, long, h) in (m + 1, inside, get_or_default all (m + 1) y (pos 0) inside ∙ after m high ∙ is)
      ]

  has_new : Contains all x
  has_new = let inside : n < length all = omega (arith, long, added.inside) in (n, inside, get_or_default all n x (pos 0) inside ∙ here)

  module _ (sound : IsEncoding (by.Dictionary entries)) (values : List (Option ℤ)) (coded : All (IsCoded (by.Dictionary entries)) values) where
    pub old_coded : All (IsCoded (by.Dictionary all)) values
    old_coded k d h = by_value (get_or values k None) refl
      where
        by_value : (v : Option ℤ) → get_or values k None ≡ v → IsCoded (by.Dictionary all) (get_or values k d)
        by_value None is = let same : get_or values k d ≡ None = get_or_default values k d None h ∙ is in rw same tt
        by_value (Some y) is =
            let it = entry_of entries sound values coded k y h is in
            let same : get_or values k d ≡ Some y = get_or_default values k d None h ∙ is in
            rw same (has_old (code_for (by.Dictionary entries) (Some y)) y it.0 it.1)

    pub codes_after : (i : ℕ) → i < length values → (above : Bool) → above ≡ (is_some (value_at values i) && nat_le n (code_for (by.Dictionary entries) (value_at values i)))
        → code_for (by.Dictionary all) (value_at values i) ≡ code_for (by.Dictionary entries) (value_at values i) + (if above then 1 else 0)
    codes_after i h above is = rw is (by_value (value_at values i) refl)
      where
        by_value : (v : Option ℤ) → value_at values i ≡ v → code_for (by.Dictionary all) v ≡ code_for (by.Dictionary entries) v + (if is_some v && nat_le n (code_for (by.Dictionary entries) v) then 1 else 0)
        by_value None none = refl
        by_value (Some y) some =
            let it = entry_of entries sound values coded i y h some in
            ap (λ o. unwrap_or o 0) (code_after y (code_for (by.Dictionary entries) (Some y)) it.0 it.1)

  -- where all entries were in use, all are the values and the new one
  pub all_fit : (stands : List Bool) (values : List (Option ℤ)) → ((y : ℤ) → (StandsIn entries stands y ↔ Contains (known values) y)) → ((m : ℕ) → m < length entries → StandsAt stands m) → AreDistinct (known values ++ x ∷ []) all
  all_fit stands values stand in_use = record { ascending = added.ascending; same = λ y. (forth y, back_in y) }
    where
      old_in : (m : ℕ) (y : ℤ) → m < length entries → get_or entries m (pos 0) ≡ y → Contains (known values ++ x ∷ []) y
      old_in m y h is = Contains-append_left (known values) (x ∷ []) y ((stand y).0 (m, h, in_use m h, is))

      forth : (y : ℤ) → Contains all y → Contains (known values ++ x ∷ []) y
      forth y h =
          let is : get_or all h.0 (pos 0) ≡ y = get_or_default all h.0 (pos 0) y h.1 ∙ h.2 in
          elim (cases_lt h.0 n) [
            | inl low ↦ old_in h.0 y (omega (arith, low, added.inside)) (sym (before h.0 low) ∙ is)
            | inr high ↦ elim (cases_eq h.0 n) [
              | inl at ↦ let same : x ≡ y = sym here ∙ ap (λ k. get_or all k (pos 0)) (sym at) ∙ is in Contains-append_right (known values) (x ∷ []) y (0, omega arith, same)
              | inr past ↦
                  let next : h.0 - 1 + 1 ≡ h.0 = omega (arith, high, past) in
                  let was = after (h.0 - 1) (omega (arith, high, past)) in
                  let was_here : get_or all h.0 (pos 0) ≡ get_or entries (h.0 - 1) (pos 0) = rw next at was in
                  old_in (h.0 - 1) y (omega (arith, high, past, h.1, long)) (sym was_here ∙ is)
            ]
          ]

      back_in : (y : ℤ) → Contains (known values ++ x ∷ []) y → Contains all y
      back_in y h = elim (Contains-append_cases (known values) (x ∷ []) y h) [
        | inl old ↦ let it = (stand y).1 old in has_old it.0 y it.1 it.3
        | inr new ↦ let first : new.0 ≡ 0 = omega (arith, new.1) in let same : x ≡ y = rw first at new.2 in rw (← same) has_new
      ]

-- a column can take a dictionary with one entry more
pub can_raise : (column : ColumnView) (raise : RaiseView) (entries all : List ℤ) (x : ℤ) (n : ℕ) → IsEntryAdded entries x all n
    → column.encoding ≡ by.Dictionary entries → raise.encoding ≡ by.Dictionary all → IsEncoding raise.encoding → width raise.encoding ≡ width column.encoding
    → len raise.above ≡ length column.values → IsEncoding column.encoding → All (IsCoded column.encoding) column.values
    → ((i : ℕ) → row_at raise.above i ≡ (is_some (value_at column.values i) && nat_le n (code_for column.encoding (value_at column.values i)))) → CanRaise column raise
can_raise column raise entries all x n added own e sound wide rows own_sound own_coded above =
    let sound_there : IsEncoding (by.Dictionary entries) = rw own at own_sound in
    let coded_there : All (IsCoded (by.Dictionary entries)) column.values = rw own at own_coded in
    record {
      sound = sound;
      width = wide;
      rows = rows;
      coded = rw e (old_coded entries all x n added sound_there column.values coded_there);
      codes = λ i h. rw (e, own) (codes_after entries all x n added sound_there column.values coded_there i h (row_at raise.above i) (rw own at (above i)));
    }

-- what fits some values and an integer fits the values and cells that have that integer alone
pub fits_cells : (e : Encoding) (x : ℤ) (own cells : List (Option ℤ)) → kind_of e ≡ kinds.Dictionary → AreDistinct (known cells) (x ∷ []) → IsFit (known own ++ x ∷ []) e → IsFit (known (own ++ cells)) e
fits_cells (by.Offset o) x own cells kind distinct fits = absurd cc
fits_cells (by.Dictionary all) x own cells kind distinct fits = record { ascending = fits.ascending; same = λ y. (forth y, back_in y) }
  where
    both : known (own ++ cells) ≡ known own ++ known cells
    both = filter_map-append (λ value. value) own cells

    forth : (y : ℤ) → Contains all y → Contains (known (own ++ cells)) y
    forth y h = rw both (elim (Contains-append_cases (known own) (x ∷ []) y ((fits.same y).0 h)) [
      | inl old ↦ Contains-append_left (known own) (known cells) y old
      | inr new ↦ Contains-append_right (known own) (known cells) y ((distinct.same y).0 new)
    ])

    back_in : (y : ℤ) → Contains (known (own ++ cells)) y → Contains all y
    back_in y h = let in_both : Contains (known own ++ known cells) y = rw both at h in
        (fits.same y).1 (elim (Contains-append_cases (known own) (known cells) y in_both) [
          | inl old ↦ Contains-append_left (known own) (x ∷ []) y old
          | inr new ↦ Contains-append_right (known own) (x ∷ []) y ((distinct.same y).1 new)
        ])

-- a list of one integer
one : (xs : List ℤ) (d : ℤ) → length xs ≡ 1 → xs ≡ get_or xs 0 d ∷ []
one [] d h = absurd (omega (arith, h))
one (x ∷ []) d h = refl
one (x ∷ y ∷ rest) d h = absurd (omega (arith, h))

-- the same where the cells' distinct values are a list of one
pub fits_one : (e : Encoding) (entries : List ℤ) (d : ℤ) (own cells : List (Option ℤ)) → length entries ≡ 1 → kind_of e ≡ kinds.Dictionary → AreDistinct (known cells) entries → IsFit (known own ++ get_or entries 0 d ∷ []) e → IsFit (known (own ++ cells)) e
fits_one e entries d own cells long kind distinct fits = let alone : AreDistinct (known cells) (get_or entries 0 d ∷ []) = subst (AreDistinct (known cells)) (one entries d long) distinct in fits_cells e (get_or entries 0 d) own cells kind alone fits

pub codes_one : (code_for : ℤ → Option ℕ) (entries : List ℤ) (d : ℤ) (n : ℕ) (codes : List ℕ) → length entries ≡ 1 → codes ≡ n ∷ [] → AreCodes code_for (get_or entries 0 d ∷ []) (n ∷ []) → AreCodes code_for entries codes
codes_one code_for entries d n codes long is are = subst (λ xs. AreCodes code_for xs codes) (sym (one entries d long)) (subst (AreCodes code_for (get_or entries 0 d ∷ [])) (sym is) are)

-- a column with the same values and encoding can take it, too
pub can_raise_still : (old new : ColumnView) (raise : RaiseView) → new.values ≡ old.values → new.encoding ≡ old.encoding → CanRaise old raise → CanRaise new raise
can_raise_still old new raise values encoding can = record {
  sound = can.sound;
  width = can.width ∙ ap width (sym encoding);
  rows = can.rows ∙ ap length (sym values);
  coded = rw values can.coded;
  codes = λ i h. rw (values, encoding) (can.codes i (omega (arith, h, ap length values)));
}

-- a column that keeps what it is gets another encoding where some cell has no code in its own
pub fits_anew : (old new : ColumnView) (cells : List (Option ℤ)) (e : Encoding) → Keeps new old → (All (IsCoded old.encoding) cells → ⊥) → IsFit (known (old.values ++ cells)) e → kind_of e ≡ kind_of old.encoding → IsEncodingFor new.values new.encoding cells e
fits_anew old new cells e keeps none fits kind = record {
  stays = λ all. absurd (none (subst (λ own. All (IsCoded own) cells) keeps.encoding all));
  anew = λ _. (subst (λ values. IsFit (known (values ++ cells)) e) (sym keeps.values) fits, kind ∙ ap kind_of (sym keeps.encoding));
}
