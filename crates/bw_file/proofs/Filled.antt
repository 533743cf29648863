-- The planes of a column, a run of its cells after the other.
use Rattle.std.proofs.Common.{All, FitsSigned, List, None, Option, Some, ap, arith, drop, get_or, inl, inr, length, length-drop, length-take, map, sym, take, w64, ℕ, ℤ, ◌+◌, ◌-◌, ◌<◌, ◌==◌, ◌≡◌, ◌≤ℤ◌, ◌≤◌, ◌∙◌, ◌⊎◌}
use Rattle.std.specs.Int.{bit_at}
use Rattle.std.proofs.Math.ListN.{get_or-eq_default}
use Rattle.std.proofs.lemmas.Bool.{cases_lt}
use Rattle.std.proofs.lemmas.Int.{ints}
use Rattle.std.proofs.lemmas.List.{get_or-drop, get_or-map, get_or-take, length-map}
use Rattle.std.proofs.lemmas.List.Elements.{All-get_or}
use Rattle.std.proofs.lemmas.Nat.Bits.{bit_at-zero}
use Rattle.bw_mask.specs.Masks.{bit_of}
use Rattle.bw_cells.specs.Distances.{distance_from}
use Rattle.bw_code.specs.Encodings.{distance}
use Rattle.bw_file.specs.Planes.{IsNear, bit_in}

-- a distance modulo 2^64 is one
pub near_code : (base z : ℤ) → FitsSigned w64 base → FitsSigned w64 z → base ≤ℤ z → distance_from base (Some z) ≡ distance z base
near_code base z fits_base fits above = omega (arith, ints, fits_base, fits, above)

near_bit : (base : ℤ) (k : ℕ) (c : Option ℤ) (b : ℕ) → FitsSigned w64 base → IsNear base k c → bit_at (distance_from base c) b ≡ bit_in base b c
near_bit base k None b fits near = bit_at-zero b
near_bit base k (Some z) b fits near = ap (λ n. bit_at n b) (near_code base z fits near.0 near.1)

-- a cell of a run, of which the last may be short
pub cell_is : (cells : List (Option ℤ)) (at n i : ℕ) → at ≤ i → i - at < n ⊎ (length cells ≤ at + n) → get_or (take n (drop at cells)) (i - at) None ≡ get_or cells i None
cell_is cells at n i l ends =
    let row : at + (i - at) ≡ i = omega (arith, l) in
    elim ends [
      | inl low ↦ get_or-take n (drop at cells) (i - at) None low ∙ get_or-drop at cells (i - at) None ∙ ap (λ j. get_or cells j None) row
      | inr last ↦
          elim (cases_lt (i - at) n) [
            | inl low ↦ get_or-take n (drop at cells) (i - at) None low ∙ get_or-drop at cells (i - at) None ∙ ap (λ j. get_or cells j None) row
            | inr past ↦
                get_or-eq_default (take n (drop at cells)) None (omega (arith, past, length-take n (drop at cells)))
                ∙ sym (get_or-eq_default cells None (omega (arith, past, last, l)))
          ]
    ]

module _ (base : ℤ) (k : ℕ) (cells : List (Option ℤ)) (fits : FitsSigned w64 base) (near : All (IsNear base k) cells) where
  pub near_at : (i : ℕ) → IsNear base k (get_or cells i None)
  near_at i =
      elim (cases_lt i (length cells)) [
        | inl here ↦ All-get_or (IsNear base k) cells i None here near
        | inr past ↦ rw (get_or-eq_default cells None past) tt
      ]

  -- the distances of a run, of which the last may be short
  pub distance_at : (at n r : ℕ) → r < n ⊎ (length cells ≤ at + n) → get_or (map (distance_from base) (take n (drop at cells))) r 0 ≡ distance_from base (get_or cells (at + r) None)
  distance_at at n r ends =
      let run = take n (drop at cells) in
      elim (cases_lt r (length (take n (drop at cells)))) [
        | inl here ↦
            let low : r < n = omega (arith, here, length-take n (drop at cells)) in
            get_or-map (distance_from base) run r None 0 here ∙ ap (distance_from base) (get_or-take n (drop at cells) r None low ∙ get_or-drop at cells r None)
        | inr past ↦
            let gone : length cells ≤ at + r = by past ends in
            get_or-eq_default (map (distance_from base) run) 0 (omega (arith, past, length-map run (distance_from base))) ∙ ap (distance_from base) (sym (get_or-eq_default cells None gone))
      ]
    where
      by : length (take n (drop at cells)) ≤ r → r < n ⊎ (length cells ≤ at + n) → length cells ≤ at + r
      by past (inl low) = omega (arith, past, low, length-take n (drop at cells), length-drop at cells)
      by past (inr last) = omega (arith, past, last, length-take n (drop at cells), length-drop at cells)

  -- a bit of a run's word
  pub bit_is : (at n i b : ℕ) → at ≤ i → i - at < n ⊎ (length cells ≤ at + n)
      → bit_of (get_or (map (distance_from base) (take n (drop at cells))) (i - at) 0) b ≡ (bit_in base b (get_or cells i None) == 1)
  bit_is at n i b l ends =
      let row : at + (i - at) ≡ i = omega (arith, l) in
      ap (λ d. bit_of d b) (distance_at at n (i - at) ends ∙ ap (λ j. distance_from base (get_or cells j None)) row)
      ∙ ap (λ x. x == 1) (near_bit base k (get_or cells i None) b fits (near_at i))
