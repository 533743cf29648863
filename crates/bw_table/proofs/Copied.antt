-- What is set to a column of a table is of its type, in the rows that are found.
use Rattle.std.proofs.Common.{FitsSigned, IsSome, List, None, Option, Some, [], ap, arith, drop, get_or, inl, inr, length, length-drop, length-take, map, nat_lt, negsuc, refl, subst, sym, take, true, w64, ℕ, ℤ, ◌&&◌, ◌+◌, ◌∙◌, ◌<◌, ◌^◌, ◌≡◌, ◌≤◌}
use Rattle.std.specs.List.{All, list_all}
use Rattle.std.proofs.lemmas.Int.{ints}
use Rattle.std.proofs.lemmas.Bool.{cases_lt, lt-ltb}
use Rattle.std.proofs.lemmas.List.{get_or-drop, get_or-map, get_or-take, get_or_default, length-map}
use Rattle.std.proofs.lemmas.List.Elements.{All-map}
use Rattle.std.proofs.lemmas.List.Sums.{AllPass-from_list_all, list_all-from_AllPass}
use Rattle.bw_mask.specs.Masks.{MaskRows, bit_of, len, row_at}
use Rattle.bw_cells.specs.Distances.{distance_from}
use Rattle.bw_code.specs.Types.{IsNullOrOfType, IsOfType, is_null_or_of_type, is_of_type}
use Rattle.bw_code.specs.declared.kind.ColumnType.{ColumnType}
use Rattle.bw_code.specs.declared.kind.ColumnType.TheVariants.{Integer}
use Rattle.bw_code.specs.Encodings.{IsEncoding, code_of}
use Rattle.bw_code.specs.declared.encoding.Encoding.{Encoding}
use Rattle.bw_code.proofs.Codes.{coded}
use Rattle.bw_code.proofs.Types.{null_or_of_type, null_or_passes, of_type}
use Rattle.bw_column.specs.Codes.{IsCoded}
use Rattle.bw_column.specs.Places.{rank}
use Rattle.bw_column.specs.Values.{IsNullOrStorable, value_at}
use Rattle.bw_column.proofs.Ordered.{place_at}
use Rattle.bw_column.proofs.Overwriting.{below_len}
use Rattle.bw_table.specs.Changes.{places, rows_found, sets_fit, type_at, value_for}
use Rattle.bw_table.specs.Slots.{Slot, column_of, slot_at, slot_column}
use Rattle.bw_table.specs.declared.setting.SetTo.{SetTo}
use Rattle.bw_table.specs.declared.setting.SetTo.TheVariants.{Value}
use Rattle.bw_table.proofs.Across.{column_at}
use Rattle.bw_table.proofs.Places.{places_in, places_inside}

-- a set gives null or a value of its column's type in each of these rows
abbrev pub Fits : List ColumnType → List (List (Option ℤ)) → ℕ × SetTo → Type 0
Fits types rows set = All (IsNullOrOfType (type_at types set.0)) (map (value_for set.1) rows)

module _ (types : List ColumnType) (rows : List (List (Option ℤ))) (sets : List (ℕ × SetTo)) where
  pub fits_down : list_all (sets_fit types sets) rows ≡ true → All (Fits types rows) sets
  fits_down e j s l =
      let set = get_or sets j s in
      let t = type_at types set.0 in
      All-map (IsNullOrOfType t) (value_for set.1) rows (λ i d h.
      null_or_of_type t (value_for set.1 (get_or rows i d)) (AllPass-from_list_all (λ s. is_null_or_of_type (type_at types s.0) (value_for s.1 (get_or rows i d))) sets (AllPass-from_list_all (sets_fit types sets) rows e i d h) j s l))

  pub fits_across : All (Fits types rows) sets → list_all (sets_fit types sets) rows ≡ true
  fits_across all =
      list_all-from_AllPass (sets_fit types sets) rows (λ i d h.
      list_all-from_AllPass (λ s. is_null_or_of_type (type_at types s.0) (value_for s.1 (get_or rows i d))) sets (λ j s l.
      let set = get_or sets j s in
      let t = type_at types set.0 in
      null_or_passes t (value_for set.1 (get_or rows i d)) (subst (IsNullOrOfType t) (get_or-map (value_for set.1) rows i d None h) (all j s l i None (omega (arith, h, length-map rows (value_for set.1)))))))

-- what is so of a column's values in the found slots is so of it in the found rows
module _ (P : Option ℤ → Type 0) (slots : List Slot) (found : MaskRows) (k : ℕ) (long : len found ≡ length slots) where
  abbrev row : ℕ → List (Option ℤ)
  row i = (slot_at slots i).row

  pub found_down : ((i : ℕ) → row_at found i ≡ true → P (value_at (slot_column slots k) i)) → All P (column_of (rows_found found slots) k)
  found_down each =
      All-map P (λ r. value_at r k) (rows_found found slots) (All-map (λ r. P (value_at r k)) row (places found) (λ j d l.
      let i = get_or (places found) j d in
      subst P (column_at slots k i (omega (arith, long, places_inside found j d l))) (each i (places_in found j d l))))

  pub found_up : All P (column_of (rows_found found slots) k) → (i : ℕ) → row_at found i ≡ true → P (value_at (slot_column slots k) i)
  found_up all i e =
      let low = below_len found i e in
      let there = place_at found (len found) i low (omega arith) e in
      let n = rank found i in
      let inside : n < length (rows_found found slots) = omega (arith, there.0, length-map (places found) row) in
      let is = get_or-map (λ r. value_at r k) (rows_found found slots) n [] None inside ∙ ap (λ r. value_at r k) (get_or-map row (places found) n 0 [] there.0 ∙ ap row there.1) in
      subst P (is ∙ sym (column_at slots k i (omega (arith, long, low)))) (all n None (omega (arith, inside, length-map (rows_found found slots) (λ (r : List (Option ℤ)). value_at r k))))

-- ---- distances

near : (x : ℤ) → FitsSigned w64 x → distance_from (negsuc 2147483647) (Some x) < 2 ^ 32 → IsOfType Integer x
near x fits low = omega (arith, ints, fits, low)

far : (x : ℤ) → IsOfType Integer x → distance_from (negsuc 2147483647) (Some x) < 2 ^ 32
far x of = omega (arith, ints, of)

-- null and the INTEGERs alone lie less than 2^32 above the least of these
pub null_or_near : (value : Option ℤ) → IsNullOrStorable value → distance_from (negsuc 2147483647) value < 2 ^ 32 → IsNullOrOfType Integer value
null_or_near None fits low = tt
null_or_near (Some x) fits low = near x fits low

pub null_or_far : (value : Option ℤ) → IsNullOrOfType Integer value → distance_from (negsuc 2147483647) value < 2 ^ 32
null_or_far None of = omega arith
null_or_far (Some x) of = far x of

-- ---- encodings

-- a column whose every code is that of an INTEGER has no other value
integer_by_range : (e : Encoding) (value : Option ℤ) → IsEncoding e → IsCoded e value → ((x : ℤ) (code : ℕ) → code_of e x ≡ Some code → true ≡ is_of_type Integer x) → IsNullOrOfType Integer value
integer_by_range e None sound has each = tt
integer_by_range e (Some x) sound has each = by_code (code_of e x) refl ((coded e sound x).1 has)
  where
    by_code : (code : Option ℕ) → code_of e x ≡ code → IsSome code → IsOfType Integer x
    by_code None is there = absurd cc
    by_code (Some code) is there = of_type Integer x (sym (each x code is))

pub integers_by_range : (e : Encoding) (values : List (Option ℤ)) → IsEncoding e → All (IsCoded e) values → ((x : ℤ) (code : ℕ) → code_of e x ≡ Some code → true ≡ is_of_type Integer x) → All (IsNullOrOfType Integer) values
integers_by_range e values sound has each k d l = integer_by_range e (get_or values k d) sound (has k d l) each

-- ---- a run of rows, by the distances of its values

module _ (vs : List (Option ℤ)) (mask : MaskRows) (row n rows : ℕ) (out : List ℕ) (is : out ≡ map (distance_from (negsuc 2147483647)) (take n (drop row vs))) (inside : row + n ≤ length vs) (same : (i : ℕ) → bit_of rows i ≡ (nat_lt i n && row_at mask (row + i))) where
  long : length out ≡ n
  long = ap length is ∙ length-map (take n (drop row vs)) (distance_from (negsuc 2147483647)) ∙ omega (arith, length-take n (drop row vs), length-drop row vs, inside)

  distance_at : (k : ℕ) → k < n → get_or out k 0 ≡ distance_from (negsuc 2147483647) (value_at vs (row + k))
  distance_at k low =
      let f = distance_from (negsuc 2147483647) in
      ap (λ xs. get_or xs k 0) is
      ∙ get_or-map f (take n (drop row vs)) k None 0 (omega (arith, low, length-take n (drop row vs), length-drop row vs, inside))
      ∙ ap f (get_or-take n (drop row vs) k None low ∙ get_or-drop row vs k None)

  pub run_near : All IsNullOrStorable vs → ((k : ℕ) → k < length out → bit_of rows k ≡ true → get_or out k 0 < 2 ^ 32) → (k : ℕ) → k < n → row_at mask (row + k) ≡ true → IsNullOrOfType Integer (value_at vs (row + k))
  run_near storable each k low there =
      let set : bit_of rows k ≡ true = same k ∙ rw (lt-ltb k n low) there in
      null_or_near (value_at vs (row + k)) (storable (row + k) None (omega (arith, low, inside))) (rw (distance_at k low) at (each k (omega (arith, low, long)) set))

  pub run_far : ((i : ℕ) → row_at mask i ≡ true → IsNullOrOfType Integer (value_at vs i)) → (k : ℕ) → k < length out → bit_of rows k ≡ true → get_or out k 0 < 2 ^ 32
  run_far each k low set =
      let below : k < n = omega (arith, low, long) in
      let there : row_at mask (row + k) ≡ true = (rw (lt-ltb k n below) at (sym (same k) ∙ set)) in
      rw (distance_at k below) (null_or_far (value_at vs (row + k)) (each (row + k) there))

-- ---- a set

module _ (types : List ColumnType) (rows : List (List (Option ℤ))) where
  -- null or a value of a type, in whichever rows
  pub value_fits : (k : ℕ) (x : Option ℤ) → IsNullOrOfType (type_at types k) x → Fits types rows (k, Value x)
  value_fits k x of = All-map (IsNullOrOfType (type_at types k)) (λ _. x) rows (λ i d l. of)

  -- one set more
  pub fits_more : (sets : List (ℕ × SetTo)) (n : ℕ) (d : ℕ × SetTo) → n < length sets → ((j : ℕ) (s : ℕ × SetTo) → j < n → Fits types rows (get_or sets j s)) → Fits types rows (get_or sets n d) → (j : ℕ) (s : ℕ × SetTo) → j < n + 1 → Fits types rows (get_or sets j s)
  fits_more sets n d inside below here j s low =
      elim (cases_lt j n) [
        | inl less ↦ below j s less
        | inr more ↦ let e : j ≡ n = omega arith in rw (e, get_or_default sets n s d inside) here
      ]
