-- A value has a code by an offset exactly where its distance from the base is one.
use Rattle.std.proofs.Common.{FitsSigned, List, None, Option, Some, ap, arith, drop, get_or, length, length-drop, length-take, map, pos, pow_pos, refl, subst, sym, take, w64, ℕ, ℤ, ◌+ℤ◌, ◌+◌, ◌-◌, ◌<◌, ◌^◌, ◌↔◌, ◌∙◌, ◌≡◌, ◌≤ℤ◌, ◌≤◌}
use Rattle.std.specs.List.{All}
use Rattle.std.proofs.lemmas.Int.{ints}
use Rattle.std.proofs.lemmas.List.{get_or-map, length-map}
use Rattle.bw_cells.specs.Distances.{distance_from}
use Rattle.bw_code.specs.Encodings.{top}
use Rattle.bw_code.specs.declared.encoding.Encoding.TheVariants as by
use Rattle.bw_code.specs.declared.offset.Offset.{Offset}
use Rattle.bw_code.proofs.Lists.{part_at}
use Rattle.bw_column.specs.Codes.{IsCoded}
use Rattle.bw_column.specs.Values.{IsNullOrStorable, value_at}

-- by the number of codes
of_number : (base x : ℤ) (p : ℕ) → FitsSigned w64 base → FitsSigned w64 x → 0 < p → (base +ℤ pos (p - 1)) ≤ℤ pos (2 ^ 63 - 1) → distance_from base (Some x) < p → (base ≤ℤ x) × (x ≤ℤ (base +ℤ pos (p - 1)))
of_number base x p fits held some high d = (omega (arith, ints, fits, held, some, high, d), omega (arith, ints, fits, held, some, high, d))

to_number : (base x : ℤ) (p : ℕ) → FitsSigned w64 base → FitsSigned w64 x → 0 < p → base ≤ℤ x → x ≤ℤ (base +ℤ pos (p - 1)) → distance_from base (Some x) < p
to_number base x p fits held some low up = omega (arith, ints, fits, held, some, low, up)

pub near : (o : Offset) (value : Option ℤ) → FitsSigned w64 o.base → top o ≤ℤ pos (2 ^ 63 - 1) → IsNullOrStorable value → (distance_from o.base value < 2 ^ o.width) ↔ IsCoded (by.Offset o) value
near o None fits high storable = (λ _. tt, λ _. pow_pos o.width)
near o (Some x) fits high storable = (of_number o.base x (2 ^ o.width) fits storable (pow_pos o.width) high, λ h. to_number o.base x (2 ^ o.width) fits storable (pow_pos o.width) h.0 h.1)

-- a run of values, by their distances
module _ (o : Offset) (values : List (Option ℤ)) (out : List ℕ) (at n : ℕ) (inside : at + n ≤ length values) (are : out ≡ map (distance_from o.base) (take n (drop at values))) where
  abbrev run : List (Option ℤ)
  run = take n (drop at values)

  long : length run ≡ n
  long = omega (arith, length-take n (drop at values), length-drop at values, inside)

  pub run_len : length out ≡ n
  run_len = ap length are ∙ length-map run (distance_from o.base) ∙ long

  pub run_near : FitsSigned w64 o.base → top o ≤ℤ pos (2 ^ 63 - 1) → All IsNullOrStorable values → (k : ℕ) → k < n → (get_or out k 0 < 2 ^ o.width) ↔ IsCoded (by.Offset o) (value_at values (at + k))
  run_near fits high storable k h =
      let low : k < length run = omega (arith, h, long) in
      let each : get_or out k 0 ≡ distance_from o.base (value_at values (at + k)) = ap (λ xs. get_or xs k 0) are ∙ get_or-map (distance_from o.base) run k None 0 low ∙ ap (distance_from o.base) (part_at values run at n k None refl low) in
      subst (λ d. (d < 2 ^ o.width) ↔ IsCoded (by.Offset o) (value_at values (at + k))) (sym each) (near o (value_at values (at + k)) fits high (storable (at + k) None (omega (arith, h, inside))))
