-- The codes of a dictionary stand for its values in their order.
use Rattle.std.proofs.Common.{All, Bool, FitsSigned, List, None, Some, [], ap, arith, drop, get_or, is_some, length, map, if◌then◌else◌, pos, refl, subst, suc, sym, take, unsigned_abs, w64, zero, ℕ, ℤ, ◌-◌, ◌<◌, ◌∙◌, ◌∷◌, ◌≡◌, ◌≤ℤ◌, ◌^◌}
use Rattle.std.specs.Ordering.{int_eq}
use Rattle.std.specs.Prelude.{option_map}
use Rattle.std.proofs.lemmas.Int.{fits_signed_from_abs, ints}
use Rattle.std.proofs.lemmas.List.{ext_get_or, get_or-map, length-map}
use Rattle.std.proofs.lemmas.List.Elements.{All-cons, All-head, All-nil, All-tail, All-weaker}
use Rattle.std.proofs.lemmas.List.Quantifiers.{position-Some}
use Rattle.bw_cells.specs.Distances.{distance_from}
use Rattle.bw_cells.specs.SetFunctions.{known}
use Rattle.bw_mask.specs.Masks.{bit_of}
use Rattle.bw_code.specs.Encodings.{HasCode, IsEncoding}
use Rattle.bw_code.specs.declared.encoding.Encoding.{Encoding}
use Rattle.bw_code.specs.declared.encoding.Encoding.TheVariants as by
use Rattle.bw_column.specs.Codes.{IsCoded, code_for, codes_for}
use Rattle.bw_column.proofs.Pieces.{map_part}
use Rattle.bw_column.proofs.Rows.{code_is}
use Rattle.bw_groups.specs.Entries.{IsIndexOf, entries_of, entry_of}
use Rattle.bw_groups.specs.Runs.{values_in}
use Rattle.bw_model.specs.Store.{Value}
use Rattle.bw_engine.specs.Codes.{codes_in, rebased}
use Rattle.bw_engine.specs.Found.{rows_where}
use Rattle.bw_engine.specs.Runs.{found_runs, slots_of}
use Rattle.bw_engine.proofs.CellLaws.{cells_found, where_all, where_map}

module _ (entries : List ℤ) (sound : IsEncoding (by.Dictionary entries)) where
  at_code : (x : ℤ) → HasCode (by.Dictionary entries) x → (code_for (by.Dictionary entries) (Some x) < length entries) × (get_or entries (code_for (by.Dictionary entries) (Some x)) (pos 0) ≡ x)
  at_code x has =
      let n = code_for (by.Dictionary entries) (Some x) in
      let at = position-Some (λ entry. int_eq entry x) entries n (pos 0) (code_is (by.Dictionary entries) sound x has) in
      let same : get_or entries n (pos 0) ≡ x = grind (arith, ints, at.1) in
      (at.0, same)

  pub codes_inside : (values : List Value) → All (IsCoded (by.Dictionary entries)) values → All (IsIndexOf entries) (known (codes_in (by.Dictionary entries) values))
  codes_inside [] all = All-nil (IsIndexOf entries)
  codes_inside (None ∷ values) all = codes_inside values (All-tail (IsCoded (by.Dictionary entries)) None values all)
  codes_inside (Some x ∷ values) all =
      let at = at_code x (All-head (IsCoded (by.Dictionary entries)) (Some x) values all) in
      All-cons (IsIndexOf entries) (pos (code_for (by.Dictionary entries) (Some x))) (known (codes_in (by.Dictionary entries) values))
      (omega (arith, ints), omega (arith, ints, at.0))
      (codes_inside values (All-tail (IsCoded (by.Dictionary entries)) (Some x) values all))

  -- the entries at the codes are the values
  pub values_back : (values : List Value) → All (IsCoded (by.Dictionary entries)) values → entries_of entries (codes_in (by.Dictionary entries) values) ≡ values
  values_back [] all = refl
  values_back (None ∷ values) all = ap (λ l. None ∷ l) (values_back values (All-tail (IsCoded (by.Dictionary entries)) None values all))
  values_back (Some x ∷ values) all =
      let at = at_code x (All-head (IsCoded (by.Dictionary entries)) (Some x) values all) in
      let rest = values_back values (All-tail (IsCoded (by.Dictionary entries)) (Some x) values all) in
      (λ j. Some (at.1 j) ∷ rest j)

  -- a code is its own distance from 0
  pub zero_far : length entries < 2 ^ 64 → (values : List Value) → All (IsCoded (by.Dictionary entries)) values → map (distance_from (pos 0)) (codes_in (by.Dictionary entries) values) ≡ codes_for (by.Dictionary entries) values
  zero_far few [] all = refl
  zero_far few (None ∷ values) all = ap (λ l. 0 ∷ l) (zero_far few values (All-tail (IsCoded (by.Dictionary entries)) None values all))
  zero_far few (Some x ∷ values) all =
      let n = code_for (by.Dictionary entries) (Some x) in
      let at = at_code x (All-head (IsCoded (by.Dictionary entries)) (Some x) values all) in
      let own : rebased (pos 0) n ≡ n = omega (arith, ints, few, at.0) in
      let rest = zero_far few values (All-tail (IsCoded (by.Dictionary entries)) (Some x) values all) in
      (λ j. own j ∷ rest j)

  pub codes_fit : length entries < 2 ^ 63 → (values : List Value) → All (IsCoded (by.Dictionary entries)) values → All (FitsSigned w64) (known (codes_in (by.Dictionary entries) values))
  codes_fit few values all =
      All-weaker (IsIndexOf entries) (FitsSigned w64) (λ x within. fits x within) (known (codes_in (by.Dictionary entries) values)) (codes_inside values all)
    where
      fits : (x : ℤ) → IsIndexOf entries x → FitsSigned w64 x
      fits x within =
          let low : unsigned_abs x < 2 ^ 63 = omega (arith, ints, few, within.0, within.1) in
          fits_signed_from_abs w64 x low

  pub codes_within : (last : ℕ) → last ≡ length entries - 1 → (values : List Value) → All (IsCoded (by.Dictionary entries)) values → All (λ x. (pos 0 ≤ℤ x) × (x ≤ℤ pos last)) (known (codes_in (by.Dictionary entries) values))
  codes_within last is values all =
      All-weaker (IsIndexOf entries) (λ x. (pos 0 ≤ℤ x) × (x ≤ℤ pos last)) (λ x within. (within.0, omega (arith, ints, is, within.0, within.1))) (known (codes_in (by.Dictionary entries) values)) (codes_inside values all)

-- which cells are integers
pub same_known : (e : Encoding) (values : List Value) (i : ℕ) → is_some (get_or (codes_in e values) i None) ≡ is_some (get_or values i None)
same_known e [] i = refl
same_known e (None ∷ values) zero = refl
same_known e (Some x ∷ values) zero = refl
same_known e (value ∷ values) (suc i) = same_known e values i

-- codes of a run, as distances from a base
module _ (e : Encoding) (base : ℤ) (values : List Value) (codes out : List ℕ) (set at n : ℕ) (are : codes ≡ take n (drop at (codes_for e values))) (there : (i : ℕ) → bit_of set i ≡ is_some (get_or (take n (drop at values)) i None)) where
  abbrev own : List Value
  own = take n (drop at values)

  abbrev cell : Value → Value
  cell value = option_map (λ x. pos (code_for e (Some x))) value

  row : (value : Value) (b : Bool) → b ≡ is_some value → (if b then rebased base (code_for e value) else code_for e value) ≡ distance_from base (cell value)
  row None b is = ap (λ (t : Bool). if t then rebased base 0 else 0) is
  row (Some x) b is = ap (λ (t : Bool). if t then rebased base (code_for e (Some x)) else code_for e (Some x)) is

  codes_are : codes ≡ codes_for e own
  codes_are = are ∙ sym (map_part (code_for e) values at n)

  cells_part : codes_in e own ≡ take n (drop at (codes_in e values))
  cells_part = map_part cell values at n

  pub rebased_run : length out ≡ length codes → ((k : ℕ) → k < length codes → get_or out k 0 ≡ (if bit_of set k then rebased base (get_or codes k 0) else get_or codes k 0)) → out ≡ map (distance_from base) (take n (drop at (codes_in e values)))
  rebased_run long each =
      let many : length codes ≡ length own = ap length codes_are ∙ length-map own (code_for e) in
      let count : length (codes_in e own) ≡ length own = length-map own cell in
      ext_get_or 0 out (map (distance_from base) (codes_in e own)) (long ∙ many ∙ sym count ∙ sym (length-map (codes_in e own) (distance_from base)))
      (λ k h.
      let low : k < length own = omega (arith, h, long, many) in
      let code : get_or codes k 0 ≡ code_for e (get_or own k None) = ap (λ ns. get_or ns k 0) codes_are ∙ get_or-map (code_for e) own k None 0 low in
      each k (omega (arith, h, long))
      ∙ ap (λ m. if bit_of set k then rebased base m else m) code
      ∙ row (get_or own k None) (bit_of set k) (there k)
      ∙ ap (distance_from base) (sym (get_or-map cell own k None None low))
      ∙ sym (get_or-map (distance_from base) (codes_in e own) k None 0 (omega (arith, low, count))))
      ∙ ap (map (distance_from base)) cells_part

  pub known_run : (i : ℕ) → bit_of set i ≡ is_some (get_or (take n (drop at (codes_in e values))) i None)
  known_run i = there i ∙ sym (same_known e own i) ∙ ap (λ l. is_some (get_or l i None)) cells_part

-- the codes of the found rows, and the values that they stand for
module _ (e : Encoding) (entries : List ℤ) (is : e ≡ by.Dictionary entries) (sound : IsEncoding e) (values : List Value) (coded : All (IsCoded e) values) (passes : ℕ → Bool) where
  abbrev found : List Value → List Value
  found cells = values_in (found_runs 0 (slots_of cells) passes)

  sound_by : IsEncoding (by.Dictionary entries)
  sound_by = subst IsEncoding is sound

  coded_by : All (IsCoded (by.Dictionary entries)) values
  coded_by = subst (λ x. All (IsCoded x) values) is coded

  all_inside : All (IsIndexOf entries) (known (codes_in e values))
  all_inside = subst (λ x. All (IsIndexOf entries) (known (codes_in x values))) (sym is) (codes_inside entries sound_by values coded_by)

  all_back : entries_of entries (codes_in e values) ≡ values
  all_back = ap (λ x. entries_of entries (codes_in x values)) is ∙ values_back entries sound_by values coded_by

  pub found_inside : All (IsIndexOf entries) (known (found (codes_in e values)))
  found_inside = subst (λ l. All (IsIndexOf entries) (known l)) (sym (cells_found (codes_in e values) passes)) (where_all (IsIndexOf entries) passes (codes_in e values) all_inside)

  pub found_back : entries_of entries (found (codes_in e values)) ≡ found values
  found_back =
      ap (entries_of entries) (cells_found (codes_in e values) passes)
      ∙ sym (where_map (option_map (entry_of entries)) passes (codes_in e values))
      ∙ ap (rows_where passes) all_back
      ∙ sym (cells_found values passes)

  pub found_many : length (found (codes_in e values)) ≡ length (found values)
  found_many = sym (length-map (found (codes_in e values)) (option_map (entry_of entries))) ∙ ap length found_back

pub codes_long : (e : Encoding) (values : List Value) → length (codes_in e values) ≡ length values
codes_long e values = length-map values (option_map (λ x. pos (code_for e (Some x))))
