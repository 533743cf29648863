-- What more values, or another one in a place, make of a column.
use Rattle.std.proofs.Common.{◌≡◌, ◌≢◌, ℕ, ℤ, ◌+◌, ◌-◌, ◌<◌, ◌≤◌, ◌^◌, false, List, ◌++◌, length, get_or, map, set, inl, inr, sym, ap, ◌∙◌, arith, length-append, length-set, pow_pos, refl, Option, Some, None, is_some}
use Rattle.std.specs.List.{All}
use Rattle.std.proofs.lemmas.Bool.{cases_lt, cases_eq}
use Rattle.std.proofs.lemmas.List.Elements.{All-append}
use Rattle.std.proofs.lemmas.List.{length-map, get_or-append_right, get_or-map, get_or-set_same, get_or-set_other, get_or_append_left}
use Rattle.bw_mask.specs.Masks.{MaskRows, row_at}
use Rattle.bw_code.specs.Columns.{CodeList, Fit, count, code_at}
use Rattle.bw_code.specs.Encodings.{IsEncoding, width}
use Rattle.bw_code.specs.declared.encoding.Encoding.{Encoding}
use Rattle.bw_code.specs.declared.kind.Layout.{Layout}
use Rattle.bw_code.proofs.Codes.{code_low}
use Rattle.bw_column.specs.Codes.{AreRowCodes, IsCoded, code_for, codes_for, value_from, values_from}
use Rattle.bw_column.specs.Values.{IsNullOrHeld, IsNullOrStorable, value_at}
use Rattle.bw_code.proofs.Lists.{made_len, made_more, made_set}
use Rattle.bw_column.proofs.Held.{all_storable, storable}
use Rattle.bw_column.proofs.Rows.{back, code_is}

all_set : {A : Type 0} (P : A → Type 0) (xs : List A) (at : ℕ) (x : A) → at < length xs → All P xs → P x → All P (set xs at x)
all_set P xs at x inside all here k d h =
    elim (cases_eq k at) [
      | inl same ↦ rw (same, get_or-set_same xs at x d inside) here
      | inr apart ↦ rw (get_or-set_other xs at k x d apart) (all k d (omega (arith, h, length-set xs at x)))
    ]

pub code_fits : (e : Encoding) → IsEncoding e → (value : Option ℤ) → IsCoded e value → code_for e value < 2 ^ width e
code_fits e sound None h = search (arith, pow_pos)
code_fits e sound (Some x) h = code_low e sound x (code_for e (Some x)) (code_is e sound x h)

pub codes_fit : (e : Encoding) → IsEncoding e → (values : List (Option ℤ)) → All (IsCoded e) values → Fit (width e) (codes_for e values)
codes_fit e sound values h k d l =
    let low : k < length values = omega (arith, length-map values (code_for e)) in
    rw (get_or-map (code_for e) values k None d low) (code_fits e sound (get_or values k None) (h k None low))

module _ {l : Layout} (e : Encoding) (codes new_codes : CodeList) (rows new_rows : MaskRows) (are : AreRowCodes l e codes rows) (width_stays : new_codes.width ≡ codes.width) where
  module _ (values : List (Option ℤ)) (held : All (IsCoded e) values) (kept : All (IsNullOrHeld l) values) (few : count codes + length values ≤ 2 ^ 24) (codes_are : new_codes.codes ≡ codes.codes ++ codes_for e values) (rows_are : new_rows.rows ≡ rows.rows ++ map is_some values) where
    fits : All IsNullOrStorable values
    fits = all_storable l values kept

    many : count new_codes ≡ count codes + length values
    many = ap length codes_are ∙ length-append codes.codes (codes_for e values) ∙ ap (λ k. count codes + k) (length-map values (code_for e))

    old_code : (i : ℕ) → i < count codes → code_at new_codes i ≡ code_at codes i
    old_code i h = ap (λ xs. get_or xs i 0) codes_are ∙ get_or_append_left codes.codes (codes_for e values) 0 i h

    old_row : (i : ℕ) → i < count codes → row_at new_rows i ≡ row_at rows i
    old_row i h = ap (λ xs. get_or xs i false) rows_are ∙ get_or_append_left rows.rows (map is_some values) false i (omega (arith, are.len))

    here : (i : ℕ) → count codes + i - count codes ≡ i
    here i = omega arith

    new_code : (i : ℕ) → i < length values → code_at new_codes (count codes + i) ≡ code_for e (value_at values i)
    new_code i h =
        ap (λ xs. get_or xs (count codes + i) 0) codes_are ∙ get_or-append_right codes.codes (codes_for e values) (count codes) (count codes + i) 0 refl (omega arith)
        ∙ ap (λ k. get_or (codes_for e values) k 0) (here i) ∙ get_or-map (code_for e) values i None 0 h

    new_row : (i : ℕ) → i < length values → row_at new_rows (count codes + i) ≡ is_some (value_at values i)
    new_row i h =
        ap (λ xs. get_or xs (count codes + i) false) rows_are ∙ get_or-append_right rows.rows (map is_some values) (count codes) (count codes + i) false are.len (omega arith)
        ∙ ap (λ k. get_or (map is_some values) k false) (here i) ∙ get_or-map is_some values i None false h

    pub values_extended : values_from e new_codes new_rows ≡ values_from e codes rows ++ values
    values_extended =
        rw many (made_more (count codes) (λ i. value_from e (code_at codes i) (row_at rows i)) (λ i. value_from e (code_at new_codes i) (row_at new_rows i)) values None
        (λ i h. rw (old_code i h, old_row i h) refl)
        (λ i h. rw (new_code i h, new_row i h) (back e are.sound (value_at values i) (held i None h) (fits i None h)).0))

    pub rows_extended : AreRowCodes l e new_codes new_rows
    rows_extended = record {
      sound = are.sound;
      len = ap length rows_are ∙ length-append rows.rows (map is_some values) ∙ omega (arith, are.len, many, length-map values is_some);
      narrow = are.narrow;
      width = width_stays ∙ are.width;
      few = omega (arith, many);
      each = λ i h.
          elim (cases_lt i (count codes)) [
            | inl l ↦ rw (old_code i l, old_row i l) (are.each i l)
            | inr l ↦
                let low : i - count codes < length values = omega (arith, many) in
                let at : i ≡ count codes + (i - count codes) = omega arith in
                rw (at, new_code (i - count codes) low, new_row (i - count codes) low) (back e are.sound (value_at values (i - count codes)) (held (i - count codes) None low) (fits (i - count codes) None low)).1
          ];
      held = rw values_extended (All-append (IsNullOrHeld l) (values_from e codes rows) values are.held kept);
    }

  module _ (value : Option ℤ) (held : IsCoded e value) (kept : IsNullOrHeld l value) (at : ℕ) (inside : at < count codes) (codes_are : new_codes.codes ≡ set codes.codes at (code_for e value)) (rows_are : new_rows.rows ≡ set rows.rows at (is_some value)) where
    code_there : code_at new_codes at ≡ code_for e value
    code_there = ap (λ xs. get_or xs at 0) codes_are ∙ get_or-set_same codes.codes at (code_for e value) 0 inside

    row_there : row_at new_rows at ≡ is_some value
    row_there = ap (λ xs. get_or xs at false) rows_are ∙ get_or-set_same rows.rows at (is_some value) false (omega (arith, are.len))

    other_code : (i : ℕ) → i ≢ at → code_at new_codes i ≡ code_at codes i
    other_code i d = ap (λ xs. get_or xs i 0) codes_are ∙ get_or-set_other codes.codes at i (code_for e value) 0 d

    other_row : (i : ℕ) → i ≢ at → row_at new_rows i ≡ row_at rows i
    other_row i d = ap (λ xs. get_or xs i false) rows_are ∙ get_or-set_other rows.rows at i (is_some value) false d

    as_many : count new_codes ≡ count codes
    as_many = ap length codes_are ∙ length-set codes.codes at (code_for e value)

    pub values_put : values_from e new_codes new_rows ≡ set (values_from e codes rows) at value
    values_put =
        rw as_many (made_set (count codes) (λ i. value_from e (code_at codes i) (row_at rows i)) (λ i. value_from e (code_at new_codes i) (row_at new_rows i)) at value inside
        (rw (code_there, row_there) (back e are.sound value held (storable l value kept)).0)
        (λ i h d. rw (other_code i d, other_row i d) refl))

    pub rows_put : AreRowCodes l e new_codes new_rows
    rows_put = record {
      sound = are.sound;
      len = ap length rows_are ∙ length-set rows.rows at (is_some value) ∙ are.len ∙ sym as_many;
      narrow = are.narrow;
      width = width_stays ∙ are.width;
      few = omega (arith, as_many, are.few);
      each = λ i h.
          elim (cases_eq i at) [
            | inl same ↦ rw (same, code_there, row_there) (back e are.sound value held (storable l value kept)).1
            | inr d ↦ rw (other_code i d, other_row i d) (are.each i (omega (arith, as_many)))
          ];
      held = rw values_put (all_set (IsNullOrHeld l) (values_from e codes rows) at value (omega (arith, inside, made_len (count codes) (λ i. value_from e (code_at codes i) (row_at rows i)))) are.held kept);
    }
