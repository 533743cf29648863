-- The rows of a column: what each says of its value.
use Rattle.std.proofs.Common.{◌≡◌, ℕ, ℤ, ◌<◌, Bool, true, false, inl, inr, refl, sym, ap, ◌∙◌, arith, Option, Some, None, is_some, unwrap_or}
use Rattle.std.specs.Bool.{then_some}
use Rattle.std.specs.Prelude.{option_map}
use Rattle.std.specs.List.{All}
use Rattle.std.specs.Option.{IsSome}
use Rattle.std.proofs.lemmas.Bool.{cases_lt}
use Rattle.std.proofs.lemmas.List.{get_or_past}
use Rattle.bw_mask.specs.Masks.{MaskRows, row_at}
use Rattle.bw_code.specs.Columns.{CodeList, count, code_at}
use Rattle.bw_code.specs.Encodings.{HasCode, IsEncoding, code_of, value_of}
use Rattle.bw_code.specs.declared.encoding.Encoding.{Encoding}
use Rattle.bw_code.specs.declared.kind.Layout.{Layout}
use Rattle.bw_code.proofs.Codes.{coded, code_back}
use Rattle.bw_column.specs.Codes.{AreRowCodes, IsCoded, IsRowCode, code_for, value_from, values_from}
use Rattle.bw_column.specs.Values.{IsNullOrHeld, IsNullOrStorable, value_at}
use Rattle.bw_code.proofs.Lists.{made_at, made_len}

-- a value that has a code comes back from it
abbrev pub IsBack : Encoding → Option ℤ → Type 0
IsBack e value = (value_from e (code_for e value) (is_some value) ≡ value) × IsRowCode e (code_for e value) (is_some value)

module _ (e : Encoding) (sound : IsEncoding e) where
  back_some : (x : ℤ) (o : Option ℕ) → code_of e x ≡ o → IsSome o → code_of e x ≡ Some (unwrap_or (code_of e x) 0)
  back_some x None is some = absurd cc
  back_some x (Some code) is some = is ∙ ap (λ (p : Option ℕ). Some (unwrap_or p 0)) (sym is)

  pub code_is : (x : ℤ) → HasCode e x → code_of e x ≡ Some (code_for e (Some x))
  code_is x h = back_some x (code_of e x) refl ((coded e sound x).1 h)

  pub back : (value : Option ℤ) → IsCoded e value → IsNullOrStorable value → IsBack e value
  back None h fits = (refl, refl)
  back (Some x) h fits =
      let code = code_for e (Some x) in
      let is : value_of e code ≡ x = code_back e sound x code (code_is x h) in
      (ap Some is, (rw is (code_is x h), rw is fits))

-- what a row's code says of its value
module _ (e : Encoding) where
  pub there : (code : ℕ) (b : Bool) → b ≡ is_some (value_from e code b)
  there code true = refl
  there code false = refl

  pub code_again : (code : ℕ) (b : Bool) → IsRowCode e code b → code ≡ code_for e (value_from e code b)
  code_again code true h = sym (ap (λ (o : Option ℕ). unwrap_or o 0) h.0)
  code_again code false h = h

  pub code_where : (code : ℕ) (b : Bool) → IsRowCode e code b → then_some b code ≡ option_map (λ x. code_for e (Some x)) (value_from e code b)
  code_where code true h = ap Some (code_again code true h)
  code_where code false h = refl

  pub has_code : IsEncoding e → (code : ℕ) (b : Bool) → IsRowCode e code b → IsCoded e (value_from e code b)
  has_code sound code true h = (coded e sound (value_of e code)).0 (rw h.0 refl)
  has_code sound code false h = tt

module _ {l : Layout} (e : Encoding) (codes : CodeList) (nonnull : MaskRows) (are : AreRowCodes l e codes nonnull) where
  -- the value of any row
  pub value_of_row : (i : ℕ) → value_at (values_from e codes nonnull) i ≡ value_from e (code_at codes i) (row_at nonnull i)
  value_of_row i =
      elim (cases_lt i (count codes)) [
        | inl h ↦ made_at (count codes) (λ j. value_from e (code_at codes j) (row_at nonnull j)) i None h
        | inr h ↦
            let away : row_at nonnull i ≡ false = get_or_past nonnull.rows i false (omega (arith, are.len)) in
            get_or_past (values_from e codes nonnull) i None (omega (arith, made_len (count codes) (λ j. value_from e (code_at codes j) (row_at nonnull j)))) ∙ rw away refl
      ]

  pub known_rows : (i : ℕ) → row_at nonnull i ≡ is_some (value_at (values_from e codes nonnull) i)
  known_rows i = there e (code_at codes i) (row_at nonnull i) ∙ ap is_some (sym (value_of_row i))

  pub row_codes : (i : ℕ) → code_at codes i ≡ code_for e (value_at (values_from e codes nonnull) i)
  row_codes i =
      elim (cases_lt i (count codes)) [
        | inl h ↦ code_again e (code_at codes i) (row_at nonnull i) (are.each i h) ∙ ap (code_for e) (sym (value_of_row i))
        | inr h ↦
            let none : value_at (values_from e codes nonnull) i ≡ None = get_or_past (values_from e codes nonnull) i None (omega (arith, made_len (count codes) (λ j. value_from e (code_at codes j) (row_at nonnull j)))) in
            get_or_past codes.codes i 0 h ∙ ap (code_for e) (sym none)
      ]

  pub row_code : (i : ℕ) → i < count codes → then_some (row_at nonnull i) (code_at codes i) ≡ option_map (λ x. code_for e (Some x)) (value_at (values_from e codes nonnull) i)
  row_code i h = code_where e (code_at codes i) (row_at nonnull i) (are.each i h) ∙ ap (option_map (λ x. code_for e (Some x))) (sym (value_of_row i))

  pub row_held : All (IsNullOrHeld l) (values_from e codes nonnull)
  row_held = are.held

  pub row_coded : All (IsCoded e) (values_from e codes nonnull)
  row_coded k d h =
      let low : k < count codes = omega (arith, made_len (count codes) (λ j. value_from e (code_at codes j) (row_at nonnull j))) in
      rw (made_at (count codes) (λ j. value_from e (code_at codes j) (row_at nonnull j)) k d low) (has_code e are.sound (code_at codes k) (row_at nonnull k) (are.each k low))
