-- Ends between which values lie that have codes.
use Rattle.std.proofs.Common.{FitsSigned, List, None, Option, Some, [], ap, arith, false, get_or, inl, inr, length, negsuc, pos, refl, w64, ℤ, ◌-◌, ◌<◌, ◌==◌, ◌∙◌, ◌≡◌, ◌≤ℤ◌, ◌∷◌}
use Rattle.std.specs.List.{All, Contains}
use Rattle.std.specs.Int.{saturate_signed}
use Rattle.std.proofs.lemmas.Int.{ints}
use Rattle.std.proofs.lemmas.Bool.{cases_lt}
use Rattle.std.proofs.lemmas.List.{get_or_default}
use Rattle.std.proofs.lemmas.List.Elements.{All-contains, All-head, All-tail, Contains-get_or}
use Rattle.bw_cells.proofs.Known.{all_known}
use Rattle.bw_code.specs.Ascending.{IsAscending}
use Rattle.bw_code.specs.Encodings.{IsGreatest, IsLeast, IsWithin}
use Rattle.bw_code.specs.declared.encoding.Encoding.TheVariants as by
use Rattle.bw_code.specs.declared.ends.Ends.{Ends}
use Rattle.bw_code.specs.declared.kind.Layout.{Layout}
use Rattle.bw_code.specs.declared.offset.Offset.{Offset}
use Rattle.bw_column.specs.Codes.{IsCoded}
use Rattle.bw_column.specs.Extremes.{AreBounds, AreEntryBounds}
use Rattle.bw_column.specs.Values.{IsNullOrHeld, IsStorable, known}
use Rattle.bw_column.proofs.Chosen.{holds_any}
use Rattle.bw_column.proofs.Held.{storable}

-- what is not above a number, and fits, is not above what the number is saturated to
pub saturated : (z x : ℤ) → x ≤ℤ z → FitsSigned w64 x → x ≤ℤ saturate_signed w64 z
saturated (pos n) x le fits = omega (arith, ints, le, fits)
saturated (negsuc n) x le fits = omega (arith, ints, le, fits)

pub within_bounds : (o : Offset) (ends : Ends) (layout : Layout) (values : List (Option ℤ)) → ends.least ≡ o.base → ((x : ℤ) → IsWithin o x → IsStorable x → x ≤ℤ ends.greatest) → All (IsCoded (by.Offset o)) values → All (IsNullOrHeld layout) values
    → AreBounds (known values) (Some ends)
within_bounds o ends layout values first last coded held = all_known (λ x. (ends.least ≤ℤ x) × (x ≤ℤ ends.greatest)) values each
  where
    each : (i : _) (x : ℤ) → get_or values i None ≡ Some x → (ends.least ≤ℤ x) × (x ≤ℤ ends.greatest)
    each i x is =
        let within : IsWithin o x = rw is at (holds_any (IsCoded (by.Offset o)) values tt coded i) in
        let fits : IsStorable x = rw is at (storable layout (get_or values i None) (holds_any (IsNullOrHeld layout) values tt held i)) in
        (omega (arith, ints, first, within.0), last x within fits)

nothing : (entries : List ℤ) (values : List (Option ℤ)) → entries ≡ [] → All (IsCoded (by.Dictionary entries)) values → known values ≡ []
nothing entries [] none coded = refl
nothing entries (None ∷ values) none coded = nothing entries values none (All-tail (IsCoded (by.Dictionary entries)) None values coded)
nothing entries (Some x ∷ values) none coded =
    let at : Contains entries x = All-head (IsCoded (by.Dictionary entries)) (Some x) values coded in
    absurd (omega (arith, at.1, ap length none))

pub entry_bounds : (entries : List ℤ) (ends : Option Ends) (values : List (Option ℤ)) → AreEntryBounds entries ends → All (IsCoded (by.Dictionary entries)) values → AreBounds (known values) ends
entry_bounds entries None values none coded = nothing entries values none coded
entry_bounds entries (Some ends) values each coded =
    all_known (λ x. (ends.least ≤ℤ x) × (x ≤ℤ ends.greatest)) values (λ i x is. each x (rw is at (holds_any (IsCoded (by.Dictionary entries)) values tt coded i)))

-- entries that ascend lie between the first and the last
pub between_entries : (entries : List ℤ) (x : ℤ) → IsAscending entries → Contains entries x → (get_or entries 0 (pos 0) ≤ℤ x) × (x ≤ℤ get_or entries (length entries - 1) (pos 0))
between_entries entries x rises (k, l, is) =
    let here : get_or entries k (pos 0) ≡ x = get_or_default entries k (pos 0) x l ∙ is in
    let last = length entries - 1 in
    let low : get_or entries 0 (pos 0) ≤ℤ x =
    elim (cases_lt 0 k) [
      | inl above ↦ let less = rises 0 k above l in omega (arith, ints, less, here)
      | inr first ↦ let same : get_or entries k (pos 0) ≡ get_or entries 0 (pos 0) = ap (λ j. get_or entries j (pos 0)) (omega (arith, first)) in omega (arith, ints, same, here)
    ] in
    let high : x ≤ℤ get_or entries last (pos 0) =
    elim (cases_lt k last) [
      | inl under ↦ let less = rises k last under (omega (arith, l)) in omega (arith, ints, less, here)
      | inr upto ↦ let same : get_or entries k (pos 0) ≡ get_or entries last (pos 0) = ap (λ j. get_or entries j (pos 0)) (omega (arith, upto, l)) in omega (arith, ints, same, here)
    ] in
    (low, high)

pub not_empty : (entries : List ℤ) → (length entries == 0) ≡ false → 0 < length entries
not_empty [] e = absurd cc
not_empty (x ∷ xs) e = omega arith

-- they are the least and the greatest of them
pub entries_end : (entries : List ℤ) → IsAscending entries → 0 < length entries → IsLeast entries (get_or entries 0 (pos 0)) × IsGreatest entries (get_or entries (length entries - 1) (pos 0))
entries_end entries rises some = (
  record {
    reached = Contains-get_or entries 0 (pos 0) some;
    bound = λ k d h. (between_entries entries (get_or entries k d) rises (Contains-get_or entries k d h)).0;
  },
  record {
    reached = Contains-get_or entries (length entries - 1) (pos 0) (omega (arith, some));
    bound = λ k d h. (between_entries entries (get_or entries k d) rises (Contains-get_or entries k d h)).1;
  },
)

-- what spans the entries spans the values that have codes
pub within_entries : (o : Offset) (entries : List ℤ) (values : List (Option ℤ)) → All (IsWithin o) entries → All (IsCoded (by.Dictionary entries)) values → All (IsWithin o) (known values)
within_entries o entries values within coded =
    all_known (IsWithin o) values (λ i x is. All-contains (IsWithin o) entries x within (rw is at (holds_any (IsCoded (by.Dictionary entries)) values tt coded i)))
