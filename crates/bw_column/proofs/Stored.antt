-- Rows of a mask that take the values of another column as its codes are stored, or one value; and a column of nulls.
use Rattle.std.proofs.Common.{Bool, List, None, Option, ap, arith, count_by, false, get_or, if◌then◌else◌, inl, inr, is_some, length, pos, refl, replicate, subst, sym, ℕ, ℤ, ◌-ℤ◌, ◌<◌, ◌^◌, ◌≡◌, ◌≤◌, ◌∙◌}
use Rattle.std.specs.List.{All}
use Rattle.std.proofs.lemmas.Bool.{cases_Bool, cases_lt}
use Rattle.std.proofs.lemmas.Int.{ints}
use Rattle.std.proofs.lemmas.List.{ext_get_or, get_or-replicate, get_or_past, length-replicate}
use Rattle.bw_mask.specs.Masks.{MaskRows, len, row_at}
use Rattle.bw_code.specs.Columns.{CodeList, code_at, count}
use Rattle.bw_code.specs.Encodings.{IsEncoding, width}
use Rattle.bw_code.specs.Shifts.{StaysBelow, shifted}
use Rattle.bw_code.specs.declared.encoding.Encoding.{Encoding}
use Rattle.bw_code.specs.declared.encoding.Encoding.TheVariants as by
use Rattle.bw_code.specs.declared.kind.Layout.{Layout}
use Rattle.bw_code.specs.declared.offset.Offset.{Offset}
use Rattle.bw_code.proofs.Lists.{made_at, made_len}
use Rattle.bw_column.specs.Codes.{AreRowCodes, IsCoded, code_for, value_from, values_from}
use Rattle.bw_column.specs.Copies.{masked}
use Rattle.bw_column.specs.Places.{chosen_values, overwritten, put_at}
use Rattle.bw_column.specs.Values.{IsNullOrHeld, value_at, widest}
use Rattle.bw_column.proofs.Chosen.{holds_any, rows_chosen, values_chosen}
use Rattle.bw_column.proofs.Filled.{all_put, one_for_all}
use Rattle.bw_column.proofs.Ordered.{chosen_at}
use Rattle.bw_column.proofs.Rows.{known_rows}
use Rattle.bw_column.proofs.Shifting.{column_fits, column_moved}

module _ {l m : Layout} (e other_e : Encoding) (own o : Offset) (e_is : e ≡ by.Offset o) (other_is : other_e ≡ by.Offset own)
    (codes others : CodeList) (nonnull present places : MaskRows) (are : AreRowCodes l e codes nonnull) (others_are : AreRowCodes m other_e others present)
    (copied : List (Option ℤ)) (copied_is : values_from other_e others present ≡ copied)
    (coded : All (IsCoded (by.Offset o)) copied) (held : All (IsNullOrHeld l) copied) (many : count others ≡ count codes) where
  pub codes_fit_here : (i : ℕ) → i < count codes → StaysBelow (2 ^ codes.width) (shifted (own.base -ℤ o.base) (row_at present i) (code_at others i))
  codes_fit_here i h =
      let wide : o.width ≡ codes.width = sym (are.width ∙ ap width e_is) in
      subst (λ k. StaysBelow (2 ^ k) (shifted (own.base -ℤ o.base) (row_at present i) (code_at others i))) wide
      (column_fits other_e own o others present copied other_is others_are copied_is coded i (omega (arith, h, many)))

  module _ (new : CodeList) (new_nonnull : MaskRows) (width_stays : new.width ≡ codes.width) (count_stays : count new ≡ count codes) (len_stays : len new_nonnull ≡ len nonnull)
      (codes_are : (i : ℕ) → i < count codes → pos (code_at new i) ≡ (if row_at places i then shifted (own.base -ℤ o.base) (row_at present i) (code_at others i) else pos (code_at codes i)))
      (rows_are : (j : ℕ) → row_at new_nonnull j ≡ (if row_at places j then row_at present j else row_at nonnull j)) where
    abbrev v : ℕ → Option ℤ
    v = value_at copied

    coded_at : (j : ℕ) → IsCoded e (v j)
    coded_at j = subst (λ x. IsCoded x (v j)) (sym e_is) (holds_any (IsCoded (by.Offset o)) copied tt coded j)

    held_at : (j : ℕ) → IsNullOrHeld l (v j)
    held_at j = holds_any (IsNullOrHeld l) copied tt held j

    code_now : (j : ℕ) → j < count codes → code_at new j ≡ (if row_at places j then code_for e (v j) else code_at codes j)
    code_now j h =
        elim (cases_Bool (row_at places j)) [
          | inl t ↦
              let taken : pos (code_at new j) ≡ pos (code_for e (v j)) =
              codes_are j h ∙ rw t (column_moved other_e own o others present copied other_is others_are copied_is coded j (omega (arith, h, many)) ∙ ap (λ x. pos (code_for x (v j))) (sym e_is)) in
              rw t (omega (arith, ints, taken))
          | inr t ↦
              let left : pos (code_at new j) ≡ pos (code_at codes j) = codes_are j h ∙ rw t refl in
              rw t (omega (arith, ints, left))
        ]

    row_now : (j : ℕ) → row_at new_nonnull j ≡ (if row_at places j then is_some (v j) else row_at nonnull j)
    row_now j =
        let there : row_at present j ≡ is_some (v j) = known_rows other_e others present others_are j ∙ ap (λ xs. is_some (value_at xs j)) copied_is in
        rows_are j ∙ ap (λ b. if row_at places j then b else row_at nonnull j) there

    pub rows_stored : AreRowCodes l e new new_nonnull
    rows_stored = rows_chosen e codes new nonnull new_nonnull are width_stays (row_at places) v (λ j t. coded_at j) (λ j t. held_at j) count_stays len_stays code_now row_now

    pub values_stored : values_from e new new_nonnull ≡ overwritten places (chosen_values places copied) (values_from e codes nonnull)
    values_stored =
        all_put places v (values_from e codes nonnull) (values_from e new new_nonnull) (chosen_values places copied)
        (values_chosen e codes new nonnull new_nonnull are width_stays (row_at places) v (λ j t. coded_at j) (λ j t. held_at j) count_stays len_stays code_now row_now)
        (chosen_at places copied)

-- rows that take one value
module _ {l : Layout} (e : Encoding) (codes new : CodeList) (nonnull new_nonnull places : MaskRows) (are : AreRowCodes l e codes nonnull) (value : Option ℤ) (code : ℕ) (code_is : code ≡ code_for e value)
    (coded : IsCoded e value) (held : IsNullOrHeld l value) (width_stays : new.width ≡ codes.width) (count_stays : count new ≡ count codes) (len_stays : len new_nonnull ≡ len nonnull)
    (codes_are : (j : ℕ) → j < count codes → code_at new j ≡ (if row_at places j then code else code_at codes j))
    (rows_are : (j : ℕ) → row_at new_nonnull j ≡ (if row_at places j then is_some value else row_at nonnull j)) where
  code_given : (j : ℕ) → j < count codes → code_at new j ≡ (if row_at places j then code_for e value else code_at codes j)
  code_given j h = codes_are j h ∙ ap (λ x. if row_at places j then x else code_at codes j) code_is

  pub rows_given : AreRowCodes l e new new_nonnull
  rows_given = rows_chosen e codes new nonnull new_nonnull are width_stays (row_at places) (λ _. value) (λ j t. coded) (λ j t. held) count_stays len_stays code_given rows_are

  pub values_given : values_from e new new_nonnull ≡ overwritten places (replicate (count_by (λ row. row) places.rows) value) (values_from e codes nonnull)
  values_given =
      all_put places (λ _. value) (values_from e codes nonnull) (values_from e new new_nonnull) (replicate (count_by (λ row. row) places.rows) value)
      (values_chosen e codes new nonnull new_nonnull are width_stays (row_at places) (λ _. value) (λ j t. coded) (λ j t. held) count_stays len_stays code_given rows_are)
      (one_for_all places value)

-- rows that are all null
module _ (l : Layout) (e : Encoding) (sound : IsEncoding e) (codes : CodeList) (nonnull : MaskRows) (n : ℕ) (zeros : codes.codes ≡ replicate {A = ℕ} n 0) (falses : nonnull.rows ≡ replicate n false) where
  none : (i : ℕ) → row_at nonnull i ≡ false
  none i =
      ap (λ rows. get_or rows i false) falses
      ∙ elim (cases_lt i n) [
        | inl h ↦ get_or-replicate n i false false h
        | inr h ↦ get_or_past (replicate n false) i false (omega (arith, h, length-replicate {A = Bool} n false))
      ]

  many : count codes ≡ n
  many = ap length zeros ∙ length-replicate {A = ℕ} n 0

  abbrev value : ℕ → Option ℤ
  value i = value_from e (code_at codes i) (row_at nonnull i)

  is_null : (i : ℕ) → value i ≡ None
  is_null i = rw (none i) refl

  pub values_null : values_from e codes nonnull ≡ replicate n None
  values_null =
      let size : length (values_from e codes nonnull) ≡ n = made_len (count codes) value ∙ many in
      ext_get_or None (values_from e codes nonnull) (replicate n None) (size ∙ sym (length-replicate {A = Option ℤ} n None)) (λ i h.
      made_at (count codes) value i None (omega (arith, h, size, many)) ∙ is_null i ∙ sym (get_or-replicate n i None None (omega (arith, h, size))))

  pub rows_null : width e ≤ widest l → codes.width ≡ width e → n ≤ 2 ^ 24 → AreRowCodes l e codes nonnull
  rows_null narrow wide few = record {
    sound = sound;
    len = ap length falses ∙ length-replicate {A = Bool} n false ∙ sym many;
    narrow = narrow;
    width = wide;
    few = omega (arith, many, few);
    each = λ i h.
        let zero : code_at codes i ≡ 0 = ap (λ xs. get_or xs i 0) zeros ∙ get_or-replicate n i 0 0 (omega (arith, h, many)) in
        rw (none i) zero;
    held = λ k d h. rw (made_at (count codes) value k d (omega (arith, h, made_len (count codes) value)), none k) tt;
  }

-- nulls of which the rows of a mask take values
pub nulls_masked : (places : MaskRows) (values : List (Option ℤ)) → overwritten places (chosen_values places values) (replicate (length values) None) ≡ masked places values
nulls_masked places values =
    let n = length values in
    let nulls : List (Option ℤ) = replicate n None in
    let put : ℕ → Option ℤ = put_at places (chosen_values places values) nulls in
    let keep : ℕ → Option ℤ = λ i. if row_at places i then value_at values i else None in
    let size : length nulls ≡ n = length-replicate {A = Option ℤ} n None in
    ext_get_or None (overwritten places (chosen_values places values) nulls) (masked places values) (made_len (length nulls) put ∙ size ∙ sym (made_len n keep)) (λ i h.
    let low : i < n = omega (arith, h, made_len (length nulls) put, size) in
    made_at (length nulls) put i None (omega (arith, low, size))
    ∙ elim (cases_Bool (row_at places i)) [
      | inl t ↦ rw t (chosen_at places values i t)
      | inr t ↦ rw t (get_or-replicate n i None None low)
    ]
    ∙ sym (made_at n keep i None low))
