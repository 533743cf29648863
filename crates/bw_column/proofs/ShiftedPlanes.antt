-- The planes of rows whose codes are counted from another base.
use Rattle.std.proofs.Common.{Bool, FitsSigned, List, None, Option, [], ap, arith, cond, drop, false, get_or, if◌then◌else◌, inl, inr, length, map, nat_lt, refl, sym, take, true, w64, ℕ, ℤ, ◌%◌, ◌&&◌, ◌*◌, ◌+◌, ◌/◌, ◌<◌, ◌==◌, ◌^◌, ◌≡◌, ◌≤◌, ◌∙◌, ◌⊎◌}
use Rattle.std.proofs.lemmas.Bool.{cases_lt, le-ltb, lt-ltb}
use Rattle.std.proofs.lemmas.List.{get_or-map, get_or_past, length-map}
use Rattle.std.proofs.lemmas.Nat.Bits.{bit_at_cat_low}
use Rattle.bw_mask.specs.Masks.{MaskRows, bit_of, row_at, row_in}
use Rattle.bw_cells.specs.Distances.{distance_from}
use Rattle.bw_code.specs.Columns.{CodeList, code_at, count}
use Rattle.bw_code.specs.Encodings.{width}
use Rattle.bw_code.specs.declared.encoding.Encoding.TheVariants as by
use Rattle.bw_code.specs.declared.kind.Layout.{Layout}
use Rattle.bw_code.specs.declared.offset.Offset.{Offset}
use Rattle.bw_code.proofs.Lists.{made_len}
use Rattle.bw_code.proofs.Runs.{fit_at}
use Rattle.bw_column.specs.Codes.{AreRowCodes, IsRowCode, value_from, values_from}
use Rattle.bw_column.specs.Values.{value_at}
use Rattle.bw_column.proofs.Bases.{between, distance_of_row}
use Rattle.bw_column.proofs.Changed.{codes_fit}
use Rattle.bw_column.proofs.Lain.{number_of_planes, run_of}
use Rattle.bw_column.proofs.Rows.{row_coded, value_of_row}
use Rattle.bw_column.proofs.Scans.{all_codes}
use Rattle.bw_vertical.specs.Planes.{code_by_planes}

-- a low bit is that of the number modulo 2^64
low_bit : (n b : ℕ) → b < 64 → bit_of n b ≡ bit_of (n % 2 ^ 64) b
low_bit n b h =
    let whole : n / 2 ^ 64 * 2 ^ 64 + n % 2 ^ 64 ≡ n = omega arith in
    ap (λ m. bit_of m b) (sym whole) ∙ ap (λ x. x == 1) (bit_at_cat_low (n / 2 ^ 64) 64 (n % 2 ^ 64) b h)

-- what is added to the code of a row that is there; one of a null is 0, and so it stays
moved_bit : (o : Offset) (code more b : ℕ) (there : Bool) → b < 64 → IsRowCode (by.Offset o) code there → bit_of (code + (if there then more else 0)) b ≡ bit_of (cond there ((code + more) % 2 ^ 64) 0) b
moved_bit o code more b true h is = low_bit (code + more) b h
moved_bit o code more b false h is = ap (λ c. bit_of (c + 0) b) is

module _ {l : Layout} (o : Offset) (codes : CodeList) (nonnull : MaskRows) (are : AreRowCodes l (by.Offset o) codes nonnull) (base : ℤ) (fits : FitsSigned w64 o.base) (fits_other : FitsSigned w64 base)
    (at n : ℕ) (present : List ℕ) (block : List (List ℕ))
    (read : (b r : ℕ) → b < codes.width → r < 2048 → row_in (get_or block b []) r ≡ bit_of (code_at codes (at + r)) b)
    (bits : (i : ℕ) → row_in present i ≡ (nat_lt i n && row_at nonnull (at + i))) where
  abbrev values : List (Option ℤ)
  values = values_from (by.Offset o) codes nonnull

  row_code : (i : ℕ) → IsRowCode (by.Offset o) (code_at codes i) (row_at nonnull i)
  row_code i =
      elim (cases_lt i (count codes)) [
        | inl h ↦ are.each i h
        | inr h ↦
            let away : row_at nonnull i ≡ false = get_or_past nonnull.rows i false (omega (arith, h, are.len)) in
            rw away (get_or_past codes.codes i 0 h)
      ]

  small : (i : ℕ) → code_at codes i < 2 ^ codes.width
  small i =
      let e = by.Offset o in
      rw (are.width, all_codes e codes nonnull are) (fit_at (width e) _ (codes_fit e tt values (row_coded e codes nonnull are)) i)

  number : (r : ℕ) → r < 2048 → code_by_planes codes.width block r ≡ code_at codes (at + r)
  number r h = number_of_planes codes.width block r (code_at codes (at + r)) (small (at + r)) (λ b low. read b r low h)

  distance : (i : ℕ) → get_or (map (distance_from base) values) i 0 ≡ distance_from base (value_at values i)
  distance i =
      elim (cases_lt i (length values)) [
        | inl h ↦ get_or-map (distance_from base) values i None 0 h
        | inr h ↦ get_or_past (map (distance_from base) values) i 0 (omega (arith, h, length-map values (distance_from base))) ∙ ap (distance_from base) (sym (get_or_past values i None h))
      ]

  here : (r : ℕ) → r < n ⊎ (length values ≤ at + n) → row_in present r ≡ row_at nonnull (at + r)
  here r ends =
      elim (cases_lt r n) [
        | inl low ↦ bits r ∙ rw (lt-ltb r n low) refl
        | inr past ↦ bits r ∙ rw (le-ltb r n past) (sym (gone past ends))
      ]
    where
      gone : n ≤ r → r < n ⊎ (length values ≤ at + n) → row_at nonnull (at + r) ≡ false
      gone past (inl low) = absurd (omega (arith, past, low))
      gone past (inr last) = get_or_past nonnull.rows (at + r) false (omega (arith, past, last, are.len, made_len (count codes) (λ i. value_from (by.Offset o) (code_at codes i) (row_at nonnull i))))

  pub shifted_bit : (b r : ℕ) → b < 64 → r < 2048 → r < n ⊎ (length values ≤ at + n)
      → bit_of (code_by_planes codes.width block r + (if row_in present r then between o.base base else 0)) b ≡ bit_of (get_or (map (distance_from base) (take n (drop at values))) r 0) b
  shifted_bit b r h inside ends =
      let code = code_at codes (at + r) in
      let there = row_at nonnull (at + r) in
      let more = between o.base base in
      ap (λ x. bit_of (x + (if row_in present r then more else 0)) b) (number r inside)
      ∙ ap (λ (t : Bool). bit_of (code + (if t then more else 0)) b) (here r ends)
      ∙ moved_bit o code more b there h (row_code (at + r))
      ∙ ap (λ x. bit_of x b) (distance_of_row o base code there fits fits_other (row_code (at + r)) ∙ ap (distance_from base) (sym (value_of_row (by.Offset o) codes nonnull are (at + r))) ∙ sym (distance (at + r)) ∙ sym (run_of (distance_from base) values at n r ends))
