-- Distances from a base, counted from another.
use Rattle.std.proofs.Common.{Bool, FitsSigned, List, None, Option, Some, [], ap, arith, cond, drop, false, get_or, inl, inr, is_some, length, length-take, map, nat_lt, of_z, pos, refl, sym, take, true, w64, ℕ, ℤ, ◌<◌, ◌∷◌, ◌%◌, ◌&&◌, ◌+◌, ◌+ℤ◌, ◌-◌, ◌^◌, ◌≡◌, ◌∙◌}
use Rattle.std.specs.List.{All}
use Rattle.std.proofs.lemmas.Bool.{cases_lt, lt-ltb}
use Rattle.std.proofs.lemmas.Bool.Decides.{nat_tests}
use Rattle.std.proofs.lemmas.Int.{ints}
use Rattle.std.proofs.lemmas.List.{get_or-drop, get_or-take, get_or_past}
use Rattle.std.proofs.lemmas.List.Elements.{All-head, All-tail}
use Rattle.bw_mask.specs.Masks.{bit_of}
use Rattle.bw_cells.specs.Distances.{distance_from}
use Rattle.bw_code.specs.Encodings.{IsEncoding}
use Rattle.bw_code.specs.declared.encoding.Encoding.{Encoding}
use Rattle.bw_code.specs.declared.encoding.Encoding.TheVariants as by
use Rattle.bw_code.specs.declared.offset.Offset.{Offset}
use Rattle.bw_column.specs.Codes.{IsCoded, IsRowCode, code_for, codes_for, value_from}
use Rattle.bw_column.specs.Values.{IsNullOrStorable}
use Rattle.bw_column.proofs.Blocks.{are_row_codes, rows, rows_are_values}
use Rattle.bw_column.proofs.Flat.{distance_is, unwrapped}

-- how much more a distance is from the other base, modulo 2^64
abbrev pub between : ℤ → ℤ → ℕ
between base other = (of_z w64 base + (2 ^ 64 - of_z w64 other)) % 2 ^ 64

counted_anew : (base other : ℤ) (code : ℕ) → FitsSigned w64 base → FitsSigned w64 other → FitsSigned w64 (base +ℤ pos code) → (code + between base other) % 2 ^ 64 ≡ (of_z w64 (base +ℤ pos code) + (2 ^ 64 - of_z w64 other)) % 2 ^ 64
counted_anew base other code fits_base fits_other fits = omega (arith, ints, fits_base, fits_other, fits)

pub distance_of_row : (o : Offset) (base : ℤ) (code : ℕ) (there : Bool) → FitsSigned w64 o.base → FitsSigned w64 base → IsRowCode (by.Offset o) code there → cond there ((code + between o.base base) % 2 ^ 64) 0 ≡ distance_from base (value_from (by.Offset o) code there)
distance_of_row o base code true fits_base fits_other h =
    counted_anew o.base base code fits_base fits_other h.1
distance_of_row o base code false fits_base fits_other h = refl

-- a value's distance from the base of its encoding is its code
pub distance_is_code : (o : Offset) (value : Option ℤ) → FitsSigned w64 o.base → IsCoded (by.Offset o) value → IsNullOrStorable value → distance_from o.base value ≡ code_for (by.Offset o) value
distance_is_code o None fits coded storable = refl
distance_is_code o (Some x) fits coded storable =
    unwrapped o.base x (distance_from o.base (Some x)) fits storable refl coded.0 ∙ distance_is o (Some x) coded

pub distances_are_codes : (o : Offset) (values : List (Option ℤ)) → FitsSigned w64 o.base → All (IsCoded (by.Offset o)) values → All IsNullOrStorable values → map (distance_from o.base) values ≡ codes_for (by.Offset o) values
distances_are_codes o [] fits coded storable = refl
distances_are_codes o (x ∷ xs) fits coded storable =
    let first : distance_from o.base x ≡ code_for (by.Offset o) x = distance_is_code o x fits (All-head (IsCoded (by.Offset o)) x xs coded) (All-head IsNullOrStorable x xs storable) in
    let rest : map (distance_from o.base) xs ≡ codes_for (by.Offset o) xs = distances_are_codes o xs fits (All-tail (IsCoded (by.Offset o)) x xs coded) (All-tail IsNullOrStorable x xs storable) in
    cc

-- rows of values by their distances from the base of their encoding
pub measured_rows : (o : Offset) (e : Encoding) (values : List (Option ℤ)) (codes : List ℕ) (word : ℕ) → e ≡ by.Offset o → FitsSigned w64 o.base → All (IsCoded e) values → All IsNullOrStorable values → codes ≡ map (distance_from o.base) values → ((i : ℕ) → bit_of word i ≡ is_some (get_or values i None))
    → ((k : ℕ) → k < length codes → IsRowCode e (get_or codes k 0) (bit_of word k)) × (rows e codes word ≡ values)
measured_rows o e values codes word is fits held storable are present =
    let sound : IsEncoding e = rw is tt in
    let coded : All (IsCoded (by.Offset o)) values = rw is at held in
    let by_codes : codes ≡ codes_for e values = are ∙ distances_are_codes o values fits coded storable ∙ ap (λ d. codes_for d values) (sym is) in
    (are_row_codes e sound values codes word held storable by_codes present, rows_are_values e sound values codes word held storable by_codes present)

-- which rows of a part of the values are not null
pub present_part : (values : List (Option ℤ)) (row : ℕ → Bool) (at n i : ℕ) → ((k : ℕ) → row k ≡ is_some (get_or values k None)) → (nat_lt i n && row (at + i)) ≡ is_some (get_or (take n (drop at values)) i None)
present_part values row at n i are =
    elim (cases_lt i n) [
      | inl low ↦ rw (lt-ltb i n low) (are (at + i) ∙ ap is_some (sym (get_or-take n (drop at values) i None low ∙ get_or-drop at values i None)))
      | inr high ↦
          let not_here : nat_lt i n ≡ false = grind (arith, nat_tests, high) in
          let past : get_or (take n (drop at values)) i None ≡ None = get_or_past (take n (drop at values)) i None (omega (arith, high, length-take n (drop at values))) in
          rw (not_here, past) refl
    ]
