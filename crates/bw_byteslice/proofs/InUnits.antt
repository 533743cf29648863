-- Slices in memory as units.
use Rattle.std.proofs.Common.{List, [], ap, arith, drop, get_or, inl, inr, length, map, refl, sym, take, ℕ, ◌%◌, ◌*◌, ◌+◌, ◌-◌, ◌/◌, ◌<◌, ◌^◌, ◌≡◌, ◌≤◌, ◌∙◌}
use Rattle.std.proofs.Math.Nat.{div-lt_iff_lt-mul, mod-eq-sub-div-mul, mul-le-mul_right}
use Rattle.std.proofs.lemmas.Bool.{cases_lt}
use Rattle.std.proofs.lemmas.List.{get_or-drop, get_or-map, get_or-take, get_or_past, length-map}
use Rattle.std.proofs.lemmas.Nat.{div-mul-add, mod-mul-add}
use Rattle.bw_code.proofs.Lists.{made_at, made_len}
use Rattle.bw_code.specs.Units.{segments_of}
use Rattle.bw_byteslice.specs.Slices.{AreBytes, AreStored, byte_in, code_in, number_in, shift_of, slices_of}
use Rattle.bw_byteslice.specs.Storing.{AreEven, AreSlices, byte_of, code_of, number_at, units_of}
use Rattle.bw_byteslice.proofs.Numbers.{number_same, number_zero}

module _ (slices : List (List ℕ)) where
  abbrev segments : ℕ
  segments = length (get_or slices 0 []) / 32

  abbrev unit_at : ℕ → List ℕ
  unit_at u = take 32 (drop (32 * (u / length slices)) (get_or slices (u % length slices) []))

  pub units_len : length (units_of slices) ≡ segments * length slices
  units_len = made_len (segments * length slices) unit_at

  pub unit_is : (u : ℕ) (d : List ℕ) → u < length (units_of slices) → get_or (units_of slices) u d ≡ unit_at u
  unit_is u d h = made_at (segments * length slices) unit_at u d (omega (arith, h, units_len))

  module _ (even : AreEven slices) (u : ℕ) (there : u < length (units_of slices)) where
    some : 0 < length slices
    some =
        elim (cases_lt 0 (length slices)) [
          | inl p ↦ p
          | inr p ↦
              let none : length slices ≡ 0 = omega arith in
              let empty = ap (λ n. segments * n) none in
              absurd (omega (arith, empty, units_len, there))
        ]

    -- the slice of a unit is long enough
    pub wide : u / length slices < length (get_or slices (u % length slices) []) / 32
    wide =
        let low : u % length slices < length slices = omega (arith, some) in
        let in_segment : u / length slices < segments = (div-lt_iff_lt-mul some).1 (omega (arith, there, units_len)) in
        omega (arith, in_segment, even (u % length slices) low)

module _ (k n : ℕ) (slices : List (List ℕ)) (stored : AreSlices k n slices) where
  some_slices : 0 < slices_of k
  some_slices = omega (arith, stored.some)

  pub even_slices : AreEven slices
  even_slices i h = stored.long i (omega (arith, h, stored.count)) ∙ sym (stored.long 0 some_slices)

  pub stored_len : length (units_of slices) ≡ segments_of 32 n * slices_of k
  stored_len =
      let high : length (get_or slices 0 []) / 32 ≡ segments_of 32 n = omega (arith, stored.long 0 some_slices) in
      units_len slices ∙ rw (high, stored.count) refl

  -- a byte of a unit is one of the slices, or there is none
  byte_here : (i j : ℕ) → i < slices_of k → j / 32 < segments_of 32 n → byte_in (slices_of k) (units_of slices) j i ≡ byte_of slices j i
  byte_here i j low inside =
      let m = slices_of k in
      let q = j / 32 in
      let r = j % 32 in
      let short : r < 32 = omega arith in
      let place : 32 * q + r ≡ j = omega arith in
      let within : q * m + i < length (units_of slices) = omega (arith, low, stored_len, mul-le-mul_right {m = q + 1} {n = segments_of 32 n} m (omega (arith, inside))) in
      let unit : get_or (units_of slices) (q * m + i) [] ≡ take 32 (drop (32 * q) (get_or slices i [])) =
      unit_is slices (q * m + i) [] within
      ∙ ap (λ l. take 32 (drop (32 * ((q * m + i) / l)) (get_or slices ((q * m + i) % l) []))) stored.count
      ∙ rw (div-mul-add q m i low, mod-mul-add q m i low) refl in
      ap (λ s. get_or s r 0) unit ∙ get_or-take 32 (drop (32 * q) (get_or slices i [])) r 0 short ∙ get_or-drop (32 * q) (get_or slices i []) r 0 ∙ ap (λ e. get_or (get_or slices i []) e 0) place

  byte_past : (i j : ℕ) → segments_of 32 n ≤ j / 32 → byte_in (slices_of k) (units_of slices) j i ≡ 0
  byte_past i j past =
      let m = slices_of k in
      ap (λ s. get_or s (j % 32) 0) (get_or_past (units_of slices) (j / 32 * m + i) [] (omega (arith, stored_len, mul-le-mul_right {m = segments_of 32 n} {n = j / 32} m past)))

  number_here : (j : ℕ) → number_in (slices_of k) (units_of slices) j ≡ number_at (slices_of k) slices j
  number_here j =
      elim (cases_lt (j / 32) (segments_of 32 n)) [
        | inl inside ↦ number_same (slices_of k) (byte_in (slices_of k) (units_of slices) j) (byte_of slices j) (λ i low. byte_here i j low inside)
        | inr past ↦ number_zero (slices_of k) (byte_in (slices_of k) (units_of slices) j) (λ i _. byte_past i j past) ∙ sym (stored.clean j (omega arith))
      ]

  -- the codes of the units are those of the slices
  pub code_here : (j : ℕ) → code_in k (units_of slices) j ≡ code_of k slices j
  code_here j = ap (λ x. x / 2 ^ shift_of k) (number_here j)

  unit_bytes : AreBytes (units_of slices)
  unit_bytes u r short =
      elim (cases_lt u (length (units_of slices))) [
        | inl h ↦
            let q = u / length slices in
            let slice = get_or slices (u % length slices) [] in
            let unit = ap (λ s. get_or s r 0) (unit_is slices u [] h) in
            omega (arith, unit, get_or-take 32 (drop (32 * q) slice) r 0 short, get_or-drop (32 * q) slice r 0, stored.bytes (u % length slices) (32 * q + r))
        | inr past ↦ let none = ap (λ s. get_or s r 0) (get_or_past (units_of slices) u [] past) in omega (arith, none)
      ]

  pub stored_units : AreStored k (units_of slices)
  stored_units = record { bytes = unit_bytes; spare = λ j. ap (λ x. x % 2 ^ shift_of k) (number_here j) ∙ stored.spare j }

-- a unit by the slice that it is of
module _
    (A : Type 0) (f : A → List ℕ) (xs : List A) (even : AreEven (map f xs)) (u : ℕ) (there : u < length (units_of (map f xs)))
    (q start : ℕ) (q_is : q ≡ u / length xs) (start_is : start ≡ u / length xs * length xs) (slice : List ℕ) (d : A) (slice_is : slice ≡ f (get_or xs (u - start) d))
  where
    count : length (map f xs) ≡ length xs
    count = length-map xs f

    segment : q ≡ u / length (map f xs)
    segment = q_is ∙ ap (λ n. u / n) (sym count)

    at : slice ≡ get_or (map f xs) (u % length (map f xs)) []
    at =
        let place : u - start ≡ u % length (map f xs) = ap (λ n. u - n) start_is ∙ sym (mod-eq-sub-div-mul u (length xs)) ∙ ap (λ n. u % n) (sym count) in
        let low : u - start < length xs = omega (arith, place, some (map f xs) even u there, count) in
        slice_is ∙ sym (get_or-map f xs (u - start) d [] low) ∙ ap (λ n. get_or (map f xs) n []) place

    pub slice_wide : q < length slice / 32
    slice_wide = rw (segment, at) (wide (map f xs) even u there)

    pub slice_unit : (e : List ℕ) → take 32 (drop (32 * q) slice) ≡ get_or (units_of (map f xs)) u e
    slice_unit e = rw (segment, at) (sym (unit_is (map f xs) u e there))
