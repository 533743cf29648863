-- The ends of a column's values are those of its codes, which keep their order.
use Rattle.std.proofs.Common.{[], List, Option, Some, ap, arith, false, refl, subst, sym, true, ℕ, ℤ, ◌<◌, ◌∙◌, ◌≡◌, ◌≤ℤ◌, ◌≤◌, inl, inr, unwrap_or, Bool, ◌⊎◌}
use Rattle.std.specs.List.{Contains}
use Rattle.std.proofs.lemmas.Int.{ints}
use Rattle.std.proofs.lemmas.List.{get_or_past}
use Rattle.std.proofs.lemmas.Bool.{cases_lt}
use Rattle.bw_mask.specs.Masks.{MaskRows, row_at}
use Rattle.bw_code.specs.Columns.{CodeList, code_at, count}
use Rattle.bw_code.specs.Encodings.{IsCode, IsEncoding, IsGreatest, IsLeast, value_of}
use Rattle.bw_code.specs.declared.encoding.Encoding.{Encoding}
use Rattle.bw_code.specs.declared.encoding.Encoding.TheVariants as by
use Rattle.bw_code.specs.declared.kind.Layout.{Layout}
use Rattle.bw_code.proofs.Entries.{entry_is}
use Rattle.bw_column.specs.Codes.{AreRowCodes, IsRowCode, value_from, values_from}
use Rattle.bw_column.specs.Extremes.{IsGreatestFrom, IsLeastFrom, IsReached}
use Rattle.bw_column.specs.Values.{known, value_at}
use Rattle.bw_cells.proofs.Known.{all_known, known_at, none_known}
use Rattle.bw_column.proofs.Rows.{known_rows, value_of_row}

row_code : (e : Encoding) (code : ℕ) (there : Bool) → there ≡ true → IsRowCode e code there → IsCode e code
row_code e code true _ is = record { value = value_of e code; fits = omega (arith, ints, is.1); is = is.0 }
row_code e code false away is = absurd cc

less : (e : Encoding) → IsEncoding e → (a b : ℕ) → IsCode e b → a ≤ b → value_of e a ≤ℤ value_of e b
less (by.Offset o) sound a b is h = omega (arith, ints, h)
less (by.Dictionary entries) sound a b is h =
    elim (cases_lt a b) [
      | inl below ↦ omega (arith, ints, sound.ascending a b below (entry_is entries is.value b sound.ascending is.is).within)
      | inr other ↦ let same : a ≡ b = omega (arith, h, other) in rw same (omega (arith, ints))
    ]

value_there : (e : Encoding) (code : ℕ) (there : Bool) (x : ℤ) → value_from e code there ≡ Some x → (there ≡ true) × (value_of e code ≡ x)
value_there e code true x is = (refl, ap (λ (o : Option ℤ). unwrap_or o x) is)
value_there e code false x is = absurd cc

module _ {l : Layout} (e : Encoding) (codes : CodeList) (nonnull : MaskRows) (are : AreRowCodes l e codes nonnull) where
  abbrev values : List (Option ℤ)
  values = values_from e codes nonnull

  pub reached_code : (x : ℕ) → IsReached (count codes) (row_at nonnull) (code_at codes) x → IsCode e x
  reached_code x (i, low, there, is) = subst (IsCode e) is (row_code e (code_at codes i) (row_at nonnull i) there (are.each i low))

  reached_value : (x : ℕ) → IsReached (count codes) (row_at nonnull) (code_at codes) x → Contains (known values) (value_of e x)
  reached_value x (i, low, there, is) = known_at values i (value_of e x) (value_of_row e codes nonnull are i ∙ rw (there, is) refl)

  -- the place and the code of a value that is not null
  place : (i : ℕ) (x : ℤ) → value_at values i ≡ Some x → (i < count codes) × (row_at nonnull i ≡ true) × (value_of e (code_at codes i) ≡ x)
  place i x is =
      let at = value_there e (code_at codes i) (row_at nonnull i) x (sym (value_of_row e codes nonnull are i) ∙ is) in
      elim (cases_lt i (count codes)) [
        | inl low ↦ (low, at.0, at.1)
        | inr past ↦ absurd (let none : row_at nonnull i ≡ false = get_or_past nonnull.rows i false (omega (arith, are.len)) in let both = at.0 in cc)
      ]

  pub least_known : (start x : ℕ) → IsLeastFrom start (count codes) (row_at nonnull) (code_at codes) x → IsReached (count codes) (row_at nonnull) (code_at codes) x → IsLeast (known values) (value_of e x)
  least_known start x is reached = record {
    reached = reached_value x reached;
    bound = all_known (λ y. value_of e x ≤ℤ y) values (λ i y here. let at = place i y here in subst (λ z. value_of e x ≤ℤ z) at.2 (less e are.sound x (code_at codes i) (reached_code (code_at codes i) (i, at.0, at.1, refl)) (is.bound i at.0 at.1)));
  }

  pub greatest_known : (start x : ℕ) → IsGreatestFrom start (count codes) (row_at nonnull) (code_at codes) x → IsReached (count codes) (row_at nonnull) (code_at codes) x → IsGreatest (known values) (value_of e x)
  greatest_known start x is reached = record {
    reached = reached_value x reached;
    bound = all_known (λ y. y ≤ℤ value_of e x) values (λ i y here. let at = place i y here in subst (λ z. z ≤ℤ value_of e x) at.2 (less e are.sound (code_at codes i) x (reached_code x reached) (is.bound i at.0 at.1)));
  }

  -- the start is the code of a row, so that in either case one is reached
  pub reached_row : (start x first : ℕ) → row_at nonnull first ≡ true → start ≡ code_at codes first → (x ≡ start) ⊎ IsReached (count codes) (row_at nonnull) (code_at codes) x → IsReached (count codes) (row_at nonnull) (code_at codes) x
  reached_row start x first there is (inr other) = other
  reached_row start x first there is (inl here) = (first, row_inside first there, there, sym (here ∙ is))
    where
      row_inside : (i : ℕ) → row_at nonnull i ≡ true → i < count codes
      row_inside i h =
          elim (cases_lt i (count codes)) [
            | inl low ↦ low
            | inr past ↦ absurd (let none : row_at nonnull i ≡ false = get_or_past nonnull.rows i false (omega (arith, are.len)) in cc)
          ]

  -- where no row is marked, no value is known
  pub none_there : ((i : ℕ) → row_at nonnull i ≡ false) → known values ≡ []
  none_there h = none_known values (λ i. sym (known_rows e codes nonnull are i) ∙ h i)
