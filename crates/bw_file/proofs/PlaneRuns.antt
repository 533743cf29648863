-- A run of the cells of a column of planes.
use Rattle.std.proofs.Common.{All, Bool, FitsSigned, List, None, Option, Some, ap, arith, drop, false, get_or, inl, inr, is_some, length, ltb, map, pos, refl, slice_index, subst, suc, sym, take, true, w64, zero, ℕ, ℤ, ◌%◌, ◌&&◌, ◌+ℤ◌, ◌+◌, ◌-◌, ◌/◌, ◌<◌, ◌==◌, ◌^◌, ◌≡◌, ◌≤◌, ◌∙◌}
use Rattle.std.specs.Prelude.{if◌then◌else◌}
use Rattle.std.specs.Int.{bit_at, cast_unsigned}
use Rattle.std.proofs.Math.ListN.{get_or-eq_default}
use Rattle.std.proofs.lemmas.Bool.{and_right, cases_lt, le-ltb, lt-ltb}
use Rattle.std.proofs.lemmas.Int.{ints}
use Rattle.std.proofs.lemmas.List.{get_or-drop, get_or-map, get_or-take, get_or_default, length-drop, length-map, length-take, same_lists}
use Rattle.std.proofs.lemmas.List.Elements.{All-get_or}
use Rattle.std.proofs.lemmas.Nat.Bits.{bit_at-lt, bit_at-zero}
use Rattle.std.proofs.Math.Pow.{pow_mono}
use Rattle.bw_cells.specs.Distances.{distance_from}
use Rattle.bw_mask.proofs.Bits.{and_true, bit_of_zero}
use Rattle.bw_mask.specs.Masks.{bit_of}
use Rattle.bw_vertical.proofs.Numbers.{number_bit, number_fits, number_is}
use Rattle.bw_file.specs.Cells.{presence_size}
use Rattle.bw_file.specs.Planes.{ArePlanes, IsWideCell, cells_in, code_in, has_in, plane_bit, read_cell}
use Rattle.bw_file.proofs.PlaneEnds.{length-plane_cells, plane_cell}

-- no bit of a null's code is set
pub code_of_null : (rows k : ℕ) (present planes : List ℕ) (i : ℕ) → ArePlanes rows k present planes → i < rows → has_in present i ≡ false → code_in k (presence_size rows) planes i ≡ 0
code_of_null rows k present planes i are h none =
    number_is (λ p. plane_bit (presence_size rows) planes p i == 1) k 0 (pow_above k) (λ p l. ap (λ b. b == 1) (are.inside p i l (omega (arith, h)) (off (bit_at (slice_index present (i / 8)) (i % 8)) (bit_at-lt (slice_index present (i / 8)) (i % 8)) none) ∙ sym (bit_at-zero (k - 1 - p))))
  where
    pow_above : (m : ℕ) → 0 < 2 ^ m
    pow_above m = omega (arith, pow_mono {i = 0} {j = m} (omega arith))

    off : (b : ℕ) → b < 2 → (b == 1) ≡ false → b ≡ 0
    off zero l e = refl
    off (suc zero) l e = absurd cc
    off (suc (suc b)) l e = absurd (omega (arith, l))

module _ (rows at n : ℕ) (base : ℤ) (k : ℕ) (present planes : List ℕ) (inside : at + n ≤ rows) where
  abbrev run : List (Option ℤ)
  run = take n (drop at (cells_in rows base k present planes))

  abbrev cell : ℕ → Option ℤ
  cell = read_cell base k (presence_size rows) present planes

  length_run : length run ≡ n
  length_run = omega (arith, inside, length-plane_cells rows base k present planes, length-drop at (cells_in rows base k present planes), length-take n (drop at (cells_in rows base k present planes)))

  cell_of_run : (r : ℕ) → r < n → get_or run r None ≡ cell (at + r)
  cell_of_run r h =
      get_or-take n (drop at (cells_in rows base k present planes)) r None h ∙ get_or-drop at (cells_in rows base k present planes) r None ∙ plane_cell rows base k present planes (at + r) (omega (arith, inside, h))

  pub plane_run_is : (out : List (Option ℤ)) → length out ≡ n → ((r : ℕ) → r < n → get_or out r None ≡ cell (at + r)) → out ≡ run
  plane_run_is out long each =
      same_lists out run (long ∙ sym length_run) (λ r d h.
      let here : r < n = omega (arith, h, long) in
      get_or_default out r d None h ∙ each r here ∙ sym (cell_of_run r here) ∙ get_or_default run r None d (omega (arith, here, length_run)))

  pub plane_distances_in : (z : ℤ) (out : List ℕ) → length out ≡ n → ((r : ℕ) → r < n → get_or out r 0 ≡ distance_from z (cell (at + r))) → out ≡ map (distance_from z) run
  plane_distances_in z out long each =
      let size : length (map (distance_from z) run) ≡ n = length-map run (distance_from z) ∙ length_run in
      same_lists out (map (distance_from z) run) (long ∙ sym size) (λ r d h.
      let here : r < n = omega (arith, h, long) in
      get_or_default out r d 0 h ∙ each r here ∙ ap (distance_from z) (sym (cell_of_run r here)) ∙ sym (get_or-map (distance_from z) run r None d (omega (arith, here, length_run))))

  some_where : (b : Bool) (z : ℤ) → b ≡ is_some (if b then Some z else None)
  some_where true z = refl
  some_where false z = refl

  -- whether a row is read as set, and whether its cell is an integer
  pub plane_presence_in : (read : Bool) (r : ℕ) → read ≡ (bit_of (slice_index present ((at + r) / 8)) ((at + r) % 8) && ltb r n) → read ≡ is_some (get_or run r None)
  plane_presence_in read r is =
      let bit = bit_of (slice_index present ((at + r) / 8)) ((at + r) % 8) in
      is
      ∙ elim (cases_lt r n) [
        | inl here ↦
            ap (λ b. bit && b) (lt-ltb r n here) ∙ and_true bit
            ∙ some_where bit (base +ℤ pos (code_in k (presence_size rows) planes (at + r))) ∙ sym (ap is_some (cell_of_run r here))
        | inr past ↦ and_right bit (ltb r n) (le-ltb r n past) ∙ sym (ap is_some (get_or-eq_default run None (omega (arith, past, length_run))))
      ]

  module _ (are : ArePlanes rows k present planes) (wide : All IsWideCell (cells_in rows base k present planes)) (fits : FitsSigned w64 base) where
    pub wide_at : (i : ℕ) → i < rows → IsWideCell (read_cell base k (presence_size rows) present planes i)
    wide_at i h = subst IsWideCell (plane_cell rows base k present planes i h) (All-get_or IsWideCell (cells_in rows base k present planes) i None (omega (arith, h, length-plane_cells rows base k present planes)) wide)

    -- a code with what lies between the bases is the distance from the other
    pub lifted : (z : ℤ) (more r number : ℕ) (there : Bool) → FitsSigned w64 z → r < n → there ≡ has_in present (at + r) → more ≡ (cast_unsigned w64 base + (2 ^ 64 - cast_unsigned w64 z)) % 2 ^ 64
        → number ≡ (if there then (code_in k (presence_size rows) planes (at + r) + more) % 2 ^ 64 else code_in k (presence_size rows) planes (at + r)) → number ≡ distance_from z (cell (at + r))
    lifted z more r number there fits_z h is up gives = by there is gives (wide_at (at + r) (omega (arith, inside, h)))
      where
        code : ℕ
        code = code_in k (presence_size rows) planes (at + r)

        sum : (c : ℕ) → FitsSigned w64 (base +ℤ pos c) → (c + more) % 2 ^ 64 ≡ distance_from z (Some (base +ℤ pos c))
        sum c q = omega (arith, ints, fits, fits_z, q, up)

        by : (b : Bool) → b ≡ has_in present (at + r) → number ≡ (if b then (code_in k (presence_size rows) planes (at + r) + more) % 2 ^ 64 else code_in k (presence_size rows) planes (at + r))
            → IsWideCell (read_cell base k (presence_size rows) present planes (at + r)) → number ≡ distance_from z (cell (at + r))
        by true e g q =
            let read : cell (at + r) ≡ Some (base +ℤ pos (code_in k (presence_size rows) planes (at + r))) = ap (λ b. if b then Some (base +ℤ pos (code_in k (presence_size rows) planes (at + r))) else None) (sym e) in
            g ∙ sum (code_in k (presence_size rows) planes (at + r)) (subst IsWideCell read q) ∙ sym (ap (distance_from z) read)
        by false e g q =
            let read : cell (at + r) ≡ None = ap (λ b. if b then Some (base +ℤ pos (code_in k (presence_size rows) planes (at + r))) else None) (sym e) in
            g ∙ code_of_null rows k present planes (at + r) are (omega (arith, inside, h)) (sym e) ∙ sym (ap (distance_from z) read)

    -- the rows of planes are the bits of the distances from the column's own base
    pub plane_bits : (read : Bool) (r b : ℕ) → b < k → k ≤ 64 → read ≡ ((plane_bit (presence_size rows) planes (k - 1 - b) (at + r) == 1) && ltb r n) → read ≡ bit_of (get_or (map (distance_from base) run) r 0) b
    plane_bits read r b low narrow is =
        is
        ∙ elim (cases_lt r n) [
          | inl here ↦
              let place : k - 1 - (k - 1 - b) ≡ b = omega (arith, low) in
              let up : 0 ≡ (cast_unsigned w64 base + (2 ^ 64 - cast_unsigned w64 base)) % 2 ^ 64 = omega (arith, ints, fits) in
              let code_is : code ≡ distance_from base (cell (at + r)) = lifted base 0 r code (has_in present (at + r)) fits here refl up (same (has_in present (at + r))) in
              ap (λ t. F (k - 1 - b) && t) (lt-ltb r n here) ∙ and_true (F (k - 1 - b))
              ∙ sym (number_bit F k (k - 1 - b) (omega (arith, low))) ∙ ap (bit_of code) place
              ∙ ap (λ c. bit_of c b) (code_is ∙ ap (distance_from base) (sym (cell_of_run r here)) ∙ sym (get_or-map (distance_from base) run r None 0 (omega (arith, here, length_run))))
          | inr past ↦
              and_right (F (k - 1 - b)) (ltb r n) (le-ltb r n past)
              ∙ sym (bit_of_zero b) ∙ ap (λ c. bit_of c b) (sym (get_or-eq_default (map (distance_from base) run) 0 (omega (arith, past, length_run, length-map run (distance_from base)))))
        ]
      where
        F : ℕ → Bool
        F p = plane_bit (presence_size rows) planes p (at + r) == 1

        code : ℕ
        code = code_in k (presence_size rows) planes (at + r)

        same : (t : Bool) → code ≡ (if t then (code + 0) % 2 ^ 64 else code)
        same true = omega (arith, number_fits F k 64 narrow)
        same false = refl
