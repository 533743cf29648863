-- Cells whose planes lie in words or in a block.
use Rattle.std.proofs.Common.{FitsSigned, List, None, Option, [], ap, arith, cond, drop, false, get_or, inl, inr, is_some, length, length-drop, length-take, map, sym, take, w64, ℕ, ℤ, ◌+◌, ◌<◌, ◌^◌, ◌≡◌, ◌≤◌, ◌∙◌, ◌⊎◌}
use Rattle.std.specs.List.{All}
use Rattle.std.proofs.Math.ListN.{get_or-eq_default}
use Rattle.std.proofs.lemmas.Nat.Bits.{same_from_bits_below}
use Rattle.std.proofs.lemmas.Bool.{cases_lt}
use Rattle.std.proofs.lemmas.List.{get_or-drop, get_or-map, get_or-take, length-map}
use Rattle.bw_mask.specs.Masks.{bit_of, row_in}
use Rattle.bw_mask.proofs.Bits.{bit_of_zero}
use Rattle.bw_cells.specs.Distances.{distance_from}
use Rattle.bw_code.specs.Lists.{made}
use Rattle.bw_code.specs.declared.encoding.Encoding.TheVariants as by
use Rattle.bw_code.specs.declared.offset.Offset.{Offset}
use Rattle.bw_code.proofs.Lists.{made_is}
use Rattle.bw_column.specs.Codes.{IsCoded, codes_for}
use Rattle.bw_column.specs.PlaneSources.{ArePlanesOf}
use Rattle.bw_column.specs.Values.{IsNullOrStorable}
use Rattle.bw_column.proofs.Bases.{distances_are_codes}
use Rattle.bw_column.proofs.Changed.{codes_fit}
use Rattle.bw_vertical.specs.Planes.{code_by, code_by_planes}
use Rattle.bw_vertical.proofs.BlockRows.{code_by_planes_bit, code_by_planes_lt}
use Rattle.bw_vertical.proofs.Numbers.{bit_is}
use Rattle.bw_vertical.proofs.WordCodes.{code_by_bit, code_by_lt}

-- the numbers of a run of values, of which the last may be short
pub run_of : (f : Option ℤ → ℕ) (values : List (Option ℤ)) (at n r : ℕ) → r < n ⊎ (length values ≤ at + n) → get_or (map f (take n (drop at values))) r 0 ≡ get_or (map f values) (at + r) 0
run_of f values at n r ends =
    let run = take n (drop at values) in
    elim (cases_lt r (length (take n (drop at values)))) [
      | inl here ↦
          let low : r < n = omega (arith, here, length-take n (drop at values)) in
          let there : at + r < length values = omega (arith, here, length-take n (drop at values), length-drop at values) in
          get_or-map f run r None 0 here ∙ ap f (get_or-take n (drop at values) r None low ∙ get_or-drop at values r None) ∙ sym (get_or-map f values (at + r) None 0 there)
      | inr past ↦
          let gone : length values ≤ at + r = by past ends in
          get_or-eq_default (map f run) 0 (omega (arith, past, length-map run f)) ∙ sym (get_or-eq_default (map f values) 0 (omega (arith, gone, length-map values f)))
    ]
  where
    by : length (take n (drop at values)) ≤ r → r < n ⊎ (length values ≤ at + n) → length values ≤ at + r
    by past (inl low) = omega (arith, past, low, length-take n (drop at values), length-drop at values)
    by past (inr last) = omega (arith, past, last, length-take n (drop at values), length-drop at values)

-- the number that the words have at a row, by its bits
pub number_of_words : (k : ℕ) (words : List ℕ) (r code : ℕ) → code < 2 ^ k → ((b : ℕ) → b < k → bit_of (get_or words b 0) r ≡ bit_of code b) → code_by k words r ≡ code
number_of_words k words r code small bits =
    same_from_bits_below k (code_by k words r) code (code_by_lt k words r) small (λ b h.
    sym (bit_is (code_by k words r) b) ∙ ap (λ c. cond {A = ℕ} c 1 0) (code_by_bit k words r b h ∙ bits b h) ∙ bit_is code b)

-- the number that the planes of a block have at a row, by its bits
pub number_of_planes : (k : ℕ) (block : List (List ℕ)) (r code : ℕ) → code < 2 ^ k → ((b : ℕ) → b < k → row_in (get_or block b []) r ≡ bit_of code b) → code_by_planes k block r ≡ code
number_of_planes k block r code small bits =
    same_from_bits_below k (code_by_planes k block r) code (code_by_planes_lt k block r) small (λ b h.
    sym (bit_is (code_by_planes k block r) b) ∙ ap (λ c. cond {A = ℕ} c 1 0) (code_by_planes_bit k block r b h ∙ bits b h) ∙ bit_is code b)

module _ (o : Offset) (cells : List (Option ℤ)) (block : List (List ℕ)) (present : List ℕ) (n : ℕ) (fits : FitsSigned w64 o.base) (long : length cells ≡ n) (few : n ≤ 2048)
    (coded : All (IsCoded (by.Offset o)) cells) (storable : All IsNullOrStorable cells) (are : ArePlanesOf o.width o.base cells block present) where
  -- the distances of the cells are their codes
  pub lain_distances : map (distance_from o.base) cells ≡ codes_for (by.Offset o) cells
  lain_distances = distances_are_codes o cells fits coded storable

  -- the numbers that the planes hold are the codes
  pub lain_codes : made n (code_by_planes o.width block) ≡ codes_for (by.Offset o) cells
  lain_codes =
      sym (made_is n (code_by_planes o.width block) (codes_for (by.Offset o) cells) 0 (ap length (sym lain_distances) ∙ length-map cells (distance_from o.base) ∙ long) (λ i h.
      let small : get_or (codes_for (by.Offset o) cells) i 0 < 2 ^ o.width = codes_fit (by.Offset o) tt cells coded i 0 (omega (arith, h, long, ap length (sym lain_distances), length-map cells (distance_from o.base))) in
      sym (number_of_planes o.width block i (get_or (codes_for (by.Offset o) cells) i 0) small (λ b low. are.planes b i low (omega (arith, h, few)) ∙ ap (λ l. bit_of (get_or l i 0) b) lain_distances))))

  -- past the last cell no row is set
  pub lain_rest : (b r : ℕ) → b < o.width → n ≤ r → r < 2048 → row_in (get_or block b []) r ≡ false
  lain_rest b r low past inside =
      are.planes b r low inside
      ∙ ap (λ x. bit_of x b) (get_or-eq_default (map (distance_from o.base) cells) 0 (omega (arith, past, long, length-map cells (distance_from o.base)))) ∙ bit_of_zero b

  -- and the rows of the words say which cells are non-null
  pub lain_rows : made n (row_in present) ≡ map is_some cells
  lain_rows =
      sym (made_is n (row_in present) (map is_some cells) false (length-map cells is_some ∙ long) (λ i h.
      get_or-map is_some cells i None false (omega (arith, h, long)) ∙ sym (are.present i)))
