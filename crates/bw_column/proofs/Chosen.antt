-- Rows that take other values, by the list of the codes and by the mask of what is not null.
use Rattle.std.proofs.Common.{Bool, List, None, Option, ap, arith, false, get_or, if◌then◌else◌, inl, inr, is_some, length, refl, sym, true, ℕ, ℤ, ◌<◌, ◌≡◌, ◌∙◌}
use Rattle.std.specs.List.{All}
use Rattle.std.proofs.lemmas.Bool.{cases_Bool, cases_lt}
use Rattle.std.proofs.lemmas.List.{get_or-map, get_or_past, length-map}
use Rattle.bw_mask.specs.Masks.{MaskRows, len, row_at}
use Rattle.bw_code.specs.Columns.{CodeList, code_at, count}
use Rattle.bw_code.specs.Lists.{made}
use Rattle.bw_code.specs.declared.encoding.Encoding.{Encoding}
use Rattle.bw_code.specs.declared.kind.Layout.{Layout}
use Rattle.bw_code.proofs.Lists.{made_at, made_is, made_len}
use Rattle.bw_column.specs.Codes.{AreRowCodes, IsCoded, code_for, codes_for, value_from, values_from}
use Rattle.bw_column.specs.Values.{IsNullOrHeld, value_at}
use Rattle.bw_column.proofs.Held.{storable}
use Rattle.bw_column.proofs.Rows.{back}

pub code_any : (e : Encoding) (values : List (Option ℤ)) (i : ℕ) → get_or (codes_for e values) i 0 ≡ code_for e (value_at values i)
code_any e values i =
    elim (cases_lt i (length values)) [
      | inl h ↦ get_or-map (code_for e) values i None 0 h
      | inr h ↦ get_or_past (codes_for e values) i 0 (omega (arith, h, length-map values (code_for e))) ∙ ap (code_for e) (sym (get_or_past values i None h))
    ]

pub holds_any : (P : Option ℤ → Type 0) (values : List (Option ℤ)) → P None → All P values → (i : ℕ) → P (value_at values i)
holds_any P values none all i =
    elim (cases_lt i (length values)) [
      | inl h ↦ all i None h
      | inr h ↦ rw (get_or_past values i None h) none
    ]

module _ {l : Layout} (e : Encoding) (codes new_codes : CodeList) (rows new_rows : MaskRows) (are : AreRowCodes l e codes rows) (width_stays : new_codes.width ≡ codes.width) (there : ℕ → Bool) (v : ℕ → Option ℤ)
    (held : (j : ℕ) → there j ≡ true → IsCoded e (v j)) (kept : (j : ℕ) → there j ≡ true → IsNullOrHeld l (v j))
    (count_stays : count new_codes ≡ count codes) (len_stays : len new_rows ≡ len rows)
    (codes_are : (j : ℕ) → j < count codes → code_at new_codes j ≡ (if there j then code_for e (v j) else code_at codes j))
    (rows_are : (j : ℕ) → row_at new_rows j ≡ (if there j then is_some (v j) else row_at rows j)) where
  code_taken : (j : ℕ) → j < count codes → there j ≡ true → code_at new_codes j ≡ code_for e (v j)
  code_taken j h t = codes_are j h ∙ rw t refl

  code_left : (j : ℕ) → j < count codes → there j ≡ false → code_at new_codes j ≡ code_at codes j
  code_left j h t = codes_are j h ∙ rw t refl

  row_taken : (j : ℕ) → there j ≡ true → row_at new_rows j ≡ is_some (v j)
  row_taken j t = rows_are j ∙ rw t refl

  row_left : (j : ℕ) → there j ≡ false → row_at new_rows j ≡ row_at rows j
  row_left j t = rows_are j ∙ rw t refl

  abbrev own : ℕ → Option ℤ
  own j = value_from e (code_at codes j) (row_at rows j)

  abbrev pub put_value : ℕ → Option ℤ
  put_value j = if there j then v j else value_at (values_from e codes rows) j

  pub values_chosen : values_from e new_codes new_rows ≡ made (length (values_from e codes rows)) put_value
  values_chosen =
      made_is (length (values_from e codes rows)) put_value (values_from e new_codes new_rows) None
      (made_len (count new_codes) (λ j. value_from e (code_at new_codes j) (row_at new_rows j)) ∙ count_stays ∙ sym (made_len (count codes) own))
      (λ j h.
      let low : j < count codes = omega (arith, h, made_len (count codes) own) in
      let high : j < count new_codes = omega (arith, low, count_stays) in
      made_at (count new_codes) (λ k. value_from e (code_at new_codes k) (row_at new_rows k)) j None high
      ∙ elim (cases_Bool (there j)) [
        | inl t ↦ rw (t, code_taken j low t, row_taken j t) (back e are.sound (v j) (held j t) (storable l (v j) (kept j t))).0
        | inr t ↦ rw (t, code_left j low t, row_left j t) (sym (made_at (count codes) own j None low))
      ])

  value_held : (k : ℕ) → k < length (values_from e codes rows) → IsNullOrHeld l (put_value k)
  value_held k h =
      elim (cases_Bool (there k)) [
        | inl t ↦ rw t (kept k t)
        | inr t ↦ rw t (are.held k None h)
      ]

  pub rows_chosen : AreRowCodes l e new_codes new_rows
  rows_chosen = record {
    sound = are.sound;
    len = len_stays ∙ are.len ∙ sym count_stays;
    narrow = are.narrow;
    width = width_stays ∙ are.width;
    few = omega (arith, count_stays, are.few);
    each = λ i h.
        let low : i < count codes = omega (arith, h, count_stays) in
        elim (cases_Bool (there i)) [
          | inl t ↦ rw (code_taken i low t, row_taken i t) (back e are.sound (v i) (held i t) (storable l (v i) (kept i t))).1
          | inr t ↦ rw (code_left i low t, row_left i t) (are.each i low)
        ];
    held = rw values_chosen (λ k d h.
        let low : k < length (values_from e codes rows) = omega (arith, h, made_len (length (values_from e codes rows)) put_value) in
        rw (made_at (length (values_from e codes rows)) put_value k d low) (value_held k low));
  }
