-- Codes that are distances from a base, counted from another one: the same values.
use Rattle.std.proofs.Common.{All, Bool, List, None, Option, Some, ap, arith, false, pos, refl, subst, sym, true, ℕ, ℤ, ◌+ℤ◌, ◌-ℤ◌, ◌<◌, ◌^◌, ◌∙◌, ◌≡◌, ◌≤◌}
use Rattle.std.specs.Prelude.{unwrap_or}
use Rattle.std.proofs.lemmas.Int.{ints}
use Rattle.std.proofs.lemmas.Nat.{pow_pos}
use Rattle.bw_mask.specs.Masks.{MaskRows, row_at}
use Rattle.bw_code.specs.Columns.{CodeList, code_at, count}
use Rattle.bw_code.specs.Encodings.{distance}
use Rattle.bw_code.specs.Shifts.{StaysBelow, shifted}
use Rattle.bw_code.specs.declared.encoding.Encoding.{Encoding}
use Rattle.bw_code.specs.declared.encoding.Encoding.TheVariants as by
use Rattle.bw_code.specs.declared.offset.Offset.{Offset}
use Rattle.bw_code.specs.declared.kind.Layout.{Layout}
use Rattle.bw_code.proofs.Codes.{offset_coded}
use Rattle.bw_code.proofs.Lists.{made_at, made_is, made_len}
use Rattle.bw_column.specs.Codes.{AreRowCodes, IsCoded, IsRowCode, code_for, value_from, values_from}
use Rattle.bw_column.specs.Values.{IsNullOrHeld, value_at, widest}

module _ (own o : Offset) where
  pub row_fits : (code : ℕ) (there : Bool) → IsRowCode (by.Offset own) code there → IsCoded (by.Offset o) (value_from (by.Offset own) code there) → StaysBelow (2 ^ o.width) (shifted (own.base -ℤ o.base) there code)
  row_fits code true is held = (omega (arith, ints, held.0), omega (arith, ints, held.1, pow_pos o.width))
  row_fits code false is held = (omega (arith, ints), omega (arith, ints, is, pow_pos o.width))

  pub row_moved : (code : ℕ) (there : Bool) → IsRowCode (by.Offset own) code there → IsCoded (by.Offset o) (value_from (by.Offset own) code there) → shifted (own.base -ℤ o.base) there code ≡ pos (code_for (by.Offset o) (value_from (by.Offset own) code there))
  row_moved code true is held =
      let x = own.base +ℤ pos code in
      let far : pos code +ℤ (own.base -ℤ o.base) ≡ pos (distance x o.base) = omega (arith, ints, held.0) in
      far ∙ ap (λ c. pos (unwrap_or c 0)) (sym (offset_coded o x held.0 held.1))
  row_moved code false is held = ap pos is

  row_same : (code new : ℕ) (there : Bool) → IsRowCode (by.Offset own) code there → IsCoded (by.Offset o) (value_from (by.Offset own) code there) → pos new ≡ shifted (own.base -ℤ o.base) there code
      → (value_from (by.Offset o) new there ≡ value_from (by.Offset own) code there) × IsRowCode (by.Offset o) new there
  row_same code new true is held here =
      let x = own.base +ℤ pos code in
      let back : o.base +ℤ pos new ≡ x = omega (arith, ints, here) in
      let far : distance x o.base ≡ new = omega (arith, ints, here) in
      (ap Some back, (rw back (offset_coded o x held.0 held.1 ∙ ap Some far), rw back is.1))
  row_same code new false is held here = (refl, omega (arith, ints, here, is))

  module _ {l : Layout} (narrow : o.width ≤ widest l) (codes new : CodeList) (nonnull : MaskRows) (are : AreRowCodes l (by.Offset own) codes nonnull) (held : (i : ℕ) → i < count codes → IsCoded (by.Offset o) (value_from (by.Offset own) (code_at codes i) (row_at nonnull i)))
      (width_is : new.width ≡ o.width) (count_is : count new ≡ count codes) (each : (i : ℕ) → i < count codes → pos (code_at new i) ≡ shifted (own.base -ℤ o.base) (row_at nonnull i) (code_at codes i)) where
    pub values_shifted : values_from (by.Offset o) new nonnull ≡ values_from (by.Offset own) codes nonnull
    values_shifted =
        let f : ℕ → Option ℤ = λ i. value_from (by.Offset o) (code_at new i) (row_at nonnull i) in
        made_is (count codes) (λ i. value_from (by.Offset own) (code_at codes i) (row_at nonnull i)) (values_from (by.Offset o) new nonnull) None (made_len (count new) f ∙ count_is) (λ i h.
        made_at (count new) f i None (omega (arith, count_is, h)) ∙ (row_same (code_at codes i) (code_at new i) (row_at nonnull i) (are.each i h) (held i h) (each i h)).0)

    pub rows_shifted : AreRowCodes l (by.Offset o) new nonnull
    rows_shifted = record {
      sound = tt;
      len = are.len ∙ sym count_is;
      narrow = narrow;
      width = width_is;
      few = omega (arith, count_is, are.few);
      each = λ i h. let l : i < count codes = omega (arith, count_is, h) in (row_same (code_at codes i) (code_at new i) (row_at nonnull i) (are.each i l) (held i l) (each i l)).1;
      held = subst (All (IsNullOrHeld l)) (sym values_shifted) are.held;
    }

-- a column whose values all have codes from the other base
module _ {l : Layout} (e : Encoding) (own o : Offset) (codes : CodeList) (nonnull : MaskRows) (values : List (Option ℤ)) (e_is : e ≡ by.Offset own) (are : AreRowCodes l e codes nonnull)
    (view_is : values_from e codes nonnull ≡ values) (all : All (IsCoded (by.Offset o)) values) where
  rows : AreRowCodes l (by.Offset own) codes nonnull
  rows = subst (λ (x : Encoding). AreRowCodes l x codes nonnull) e_is are

  same : values_from (by.Offset own) codes nonnull ≡ values
  same = subst (λ (x : Encoding). values_from x codes nonnull ≡ values) e_is view_is

  held : (i : ℕ) → i < count codes → IsCoded (by.Offset o) (value_from (by.Offset own) (code_at codes i) (row_at nonnull i))
  held i h =
      let f : ℕ → Option ℤ = λ j. value_from (by.Offset own) (code_at codes j) (row_at nonnull j) in
      let all_here = subst (λ xs. All (IsCoded (by.Offset o)) xs) (sym same) all in
      subst (IsCoded (by.Offset o)) (made_at (count codes) f i None h) (all_here i None (omega (arith, h, made_len (count codes) f)))

  pub column_fits : (i : ℕ) → i < count codes → StaysBelow (2 ^ o.width) (shifted (own.base -ℤ o.base) (row_at nonnull i) (code_at codes i))
  column_fits i h = row_fits own o (code_at codes i) (row_at nonnull i) (rows.each i h) (held i h)

  -- a row's code from the other base is that of its value
  pub column_moved : (i : ℕ) → i < count codes → shifted (own.base -ℤ o.base) (row_at nonnull i) (code_at codes i) ≡ pos (code_for (by.Offset o) (value_at values i))
  column_moved i h =
      let f : ℕ → Option ℤ = λ j. value_from (by.Offset own) (code_at codes j) (row_at nonnull j) in
      row_moved own o (code_at codes i) (row_at nonnull i) (rows.each i h) (held i h)
      ∙ ap (λ v. pos (code_for (by.Offset o) v)) (sym (made_at (count codes) f i None h) ∙ ap (λ xs. value_at xs i) same)

  module _ (narrow : o.width ≤ widest l) (new : CodeList) (width_is : new.width ≡ o.width) (count_is : count new ≡ count codes) (each : (i : ℕ) → i < count codes → pos (code_at new i) ≡ shifted (own.base -ℤ o.base) (row_at nonnull i) (code_at codes i)) where
    pub column_shifted : AreRowCodes l (by.Offset o) new nonnull
    column_shifted = rows_shifted own o narrow codes new nonnull rows held width_is count_is each

    pub column_same : values_from (by.Offset o) new nonnull ≡ values
    column_same = values_shifted own o narrow codes new nonnull rows held width_is count_is each ∙ same
