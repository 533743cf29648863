-- How far the cells of a run of a column lie above a base, and which of them are integers.
use Rattle.std.proofs.Common.{Bool, List, None, Option, Some, ap, arith, cond, drop, false, get_or, inl, inr, is_some, length, ltb, map, refl, slice_index, sym, take, true, ℕ, ℤ, ◌%◌, ◌&&◌, ◌*◌, ◌+◌, ◌/◌, ◌<◌, ◌≡◌, ◌≤◌, ◌∙◌}
use Rattle.std.proofs.Math.ListN.{get_or-eq_default}
use Rattle.std.proofs.lemmas.Bool.{and_right, cases_lt, le-ltb, lt-ltb}
use Rattle.std.proofs.lemmas.List.{get_or-drop, get_or-map, get_or-take, get_or_default, length-drop, length-map, length-take, same_lists}
use Rattle.std.specs.Int.{cast_signed, w32}
use Rattle.byteorder.specs.Endian.{little_number}
use Rattle.bw_cells.specs.Distances.{distance_from}
use Rattle.bw_mask.proofs.Bits.{and_true}
use Rattle.bw_mask.specs.Masks.{bit_of}
use Rattle.bw_file.specs.Reading.{cells_in, read_cell}
use Rattle.bw_file.proofs.Lent.{cell_in, length-cells_in}

module _ (rows at n : ℕ) (present words : List ℕ) (inside : at + n ≤ rows) where
  abbrev run : List (Option ℤ)
  run = take n (drop at (cells_in rows present words))

  length_run : length run ≡ n
  length_run = omega (arith, inside, length-cells_in rows present words, length-drop at (cells_in rows present words), length-take n (drop at (cells_in rows present words)))

  cell_of_run : (k : ℕ) → k < n → get_or run k None ≡ read_cell present words (at + k)
  cell_of_run k h =
      get_or-take n (drop at (cells_in rows present words)) k None h ∙ get_or-drop at (cells_in rows present words) k None ∙ cell_in rows present words (at + k) (omega (arith, inside, h))

  pub distances_in : (base : ℤ) (out : List ℕ) → length out ≡ n → ((k : ℕ) → k < n → get_or out k 0 ≡ distance_from base (read_cell present words (at + k))) → out ≡ map (distance_from base) run
  distances_in base out long each =
      let size : length (map (distance_from base) run) ≡ n = length-map run (distance_from base) ∙ length_run in
      same_lists out (map (distance_from base) run) (long ∙ sym size) (λ k d h.
      let here : k < n = omega (arith, h, long) in
      get_or_default out k d 0 h ∙ each k here ∙ ap (distance_from base) (sym (cell_of_run k here)) ∙ sym (get_or-map (distance_from base) run k None d (omega (arith, here, length_run))))

  some_where : (b : Bool) (z : ℤ) → b ≡ is_some (cond b (Some z) None)
  some_where true z = refl
  some_where false z = refl

  pub presence_in : (bits k : ℕ) → bit_of bits k ≡ (bit_of (slice_index present ((at + k) / 8)) ((at + k) % 8) && ltb k n) → bit_of bits k ≡ is_some (get_or run k None)
  presence_in bits k is =
      let bit = bit_of (slice_index present ((at + k) / 8)) ((at + k) % 8) in
      is
      ∙ elim (cases_lt k n) [
        | inl here ↦
            ap (λ b. bit && b) (lt-ltb k n here) ∙ and_true bit
            ∙ some_where bit (cast_signed w32 (little_number 4 (drop (4 * (at + k)) words))) ∙ sym (ap is_some (cell_of_run k here))
        | inr past ↦ and_right bit (ltb k n) (le-ltb k n past) ∙ sym (ap is_some (get_or-eq_default run None (omega (arith, past, length_run))))
      ]
