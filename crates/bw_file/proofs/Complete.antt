-- The bits and the planes of a column are such, and its cells are read there.
use Rattle.std.proofs.Common.{All, List, None, Option, Some, [], ap, arith, drop, get_or, inl, inr, length, refl, slice_index, suc, sym, take, zero, ℕ, ℤ, ◌%◌, ◌*◌, ◌+◌, ◌-◌, ◌/◌, ◌<◌, ◌≡◌, ◌∙◌, ◌∷◌}
use Rattle.std.specs.Int.{bit_at}
use Rattle.std.proofs.Math.ListN.{get_or-eq_default}
use Rattle.std.proofs.lemmas.Bool.{cases_lt}
use Rattle.std.proofs.lemmas.List.{get_or_default, same_lists}
use Rattle.std.proofs.lemmas.List.FromFn.{get_or-map-range_with_len, length-map-range_with_len}
use Rattle.std.proofs.lemmas.Nat.Bits.{bit_at-zero}
use Rattle.bw_cells.specs.Known.{known}
use Rattle.bw_file.specs.Cells.{presence, presence_byte, presence_bytes, presence_size}
use Rattle.bw_file.proofs.Places.{length-presence_bytes}
use Rattle.bw_file.specs.Planes.{ArePlanes, IsWideCell, bit_byte, bit_bytes, bit_in, cells_in, frame_of, plane_bytes, read_cell}
use Rattle.bw_file.proofs.Bytes.{bit-bytes}
use Rattle.bw_file.proofs.PlaneColumns.{read_back}
use Rattle.bw_file.proofs.PlanePlaces.{bit-planes, length-planes}

one_byte : (cells : List (Option ℤ)) → presence_byte cells ≡ bit_byte presence cells
one_byte [] = refl
one_byte (cell ∷ cells) = ap (λ n. presence cell + 2 * n) (one_byte cells)

as_bits : (n : ℕ) (cells : List (Option ℤ)) → presence_bytes n cells ≡ bit_bytes presence n cells
as_bits zero cells = refl
as_bits (suc n) cells = ap (λ b. b ∷ presence_bytes n (drop 8 cells)) (one_byte (take 8 cells)) ∙ ap (λ bs. bit_byte presence (take 8 cells) ∷ bs) (as_bits n (drop 8 cells))

few : (c : Option ℤ) → presence c < 2
few None = omega arith
few (Some z) = omega arith

-- the bit of a row, also past the last
present_bit : (cells : List (Option ℤ)) (i : ℕ) → bit_at (slice_index (presence_bytes (presence_size (length cells)) cells) (i / 8)) (i % 8) ≡ presence (get_or cells i None)
present_bit cells i =
    elim (cases_lt (i / 8) (presence_size (length cells))) [
      | inl here ↦ ap (λ bs. bit_at (get_or bs (i / 8) 0) (i % 8)) (as_bits (presence_size (length cells)) cells) ∙ bit-bytes presence few refl (presence_size (length cells)) cells i here
      | inr past ↦
          ap (λ b. bit_at b (i % 8)) (get_or-eq_default (presence_bytes (presence_size (length cells)) cells) 0 (omega (arith, past, length-presence_bytes (presence_size (length cells)) cells)))
          ∙ bit_at-zero (i % 8) ∙ sym (ap presence (get_or-eq_default cells None (omega (arith, past))))
    ]

none_where : (base : ℤ) (b : ℕ) (c : Option ℤ) → presence c ≡ 0 → bit_in base b c ≡ 0
none_where base b None e = refl
none_where base b (Some z) e = absurd (omega (arith, e))

pub are_planes : (base : ℤ) (k : ℕ) (cells : List (Option ℤ)) → ArePlanes (length cells) k (presence_bytes (presence_size (length cells)) cells) (plane_bytes base k (presence_size (length cells)) cells)
are_planes base k cells = record {
  bits = length-presence_bytes (presence_size (length cells)) cells;
  long = length-planes base k (presence_size (length cells)) cells;
  spare = λ i past. present_bit cells i ∙ ap presence (get_or-eq_default cells None past);
  inside = λ p i h l none. bit-planes base k (presence_size (length cells)) cells p i h l ∙ none_where base (k - 1 - p) (get_or cells i None) (sym (present_bit cells i) ∙ none);
}

pub cells_back : (cells : List (Option ℤ)) → All IsWideCell cells
    → cells_in (length cells) (frame_of (known cells)).base (frame_of (known cells)).width (presence_bytes (presence_size (length cells)) cells) (plane_bytes (frame_of (known cells)).base (frame_of (known cells)).width (presence_size (length cells)) cells) ≡ cells
cells_back cells all =
    let f : ℕ → Option ℤ = read_cell (frame_of (known cells)).base (frame_of (known cells)).width (presence_size (length cells)) (presence_bytes (presence_size (length cells)) cells) (plane_bytes (frame_of (known cells)).base (frame_of (known cells)).width (presence_size (length cells)) cells) in
    let long = length-map-range_with_len f 0 (length cells) in
    same_lists (cells_in (length cells) (frame_of (known cells)).base (frame_of (known cells)).width (presence_bytes (presence_size (length cells)) cells) (plane_bytes (frame_of (known cells)).base (frame_of (known cells)).width (presence_size (length cells)) cells)) cells long (λ i d h.
    let here : i < length cells = omega (arith, h, long) in
    get_or-map-range_with_len f 0 (length cells) i i d here (omega arith) ∙ read_back cells all i here ∙ get_or_default cells i None d here)
