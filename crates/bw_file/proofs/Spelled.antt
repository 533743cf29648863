-- Bits and planes that are those of the cells which are read there.
use Rattle.std.proofs.Common.{List, None, Option, Some, ap, arith, drop, get_or, inl, inr, length, length-drop, length-take, pos, refl, slice_index, subst, suc, sym, take, zero, ℕ, ℤ, ◌%◌, ◌*◌, ◌+ℤ◌, ◌+◌, ◌-◌, ◌/◌, ◌<◌, ◌==◌, ◌≡◌, ◌≤◌, ◌∙◌}
use Rattle.std.specs.Prelude.{if◌then◌else◌}
use Rattle.std.specs.Int.{bit_at}
use Rattle.std.proofs.Math.ListN.{get_or-eq_default}
use Rattle.std.proofs.Math.Nat.{div-lt_iff_lt-mul, mod-lt, mul-le-mul_right}
use Rattle.std.proofs.lemmas.Bool.{cases_lt}
use Rattle.std.proofs.lemmas.Grind.{same_number_lists}
use Rattle.std.proofs.lemmas.Int.{ints}
use Rattle.std.proofs.lemmas.List.{get_or-drop, get_or-take}
use Rattle.std.proofs.lemmas.List.FromFn.{get_or-map-range_with_len, length-map-range_with_len}
use Rattle.std.proofs.lemmas.Nat.{div-add-mod'}
use Rattle.std.proofs.lemmas.Nat.Bits.{bit_at-lt}
use Rattle.bw_mask.specs.Masks.{bit_of}
use Rattle.bw_code.specs.Encodings.{distance}
use Rattle.bw_file.specs.Cells.{presence, presence_bytes, presence_size}
use Rattle.bw_file.proofs.Spare.{presence-by_bits}
use Rattle.bw_vertical.proofs.Numbers.{number_bit}
use Rattle.bw_file.specs.Planes.{ArePlanes, bit_bytes, bit_in, cells_in, code_in, plane_bit, plane_bytes, read_cell}
use Rattle.bw_file.proofs.Bytes.{bytes-by_bits}
use Rattle.bw_file.proofs.PlanePlaces.{byte-planes, few_in, length-planes}

-- bits of numbers that are equal as tests
pub same_bit : (a b : ℕ) → a < 2 → b < 2 → (a == 1) ≡ (b == 1) → a ≡ b
same_bit zero zero h l e = refl
same_bit zero (suc zero) h l e = absurd cc
same_bit (suc zero) zero h l e = absurd cc
same_bit (suc zero) (suc zero) h l e = refl
same_bit (suc (suc a)) b h l e = absurd (omega (arith, h))
same_bit a (suc (suc b)) h l e = absurd (omega (arith, l))

-- bytes whose bits are those of the planes of cells are the planes
module _ (base : ℤ) (k size : ℕ) (planes : List ℕ) (cells : List (Option ℤ)) (long : length planes ≡ k * size) (small : (j : ℕ) → slice_index planes j < 256)
    (bit : (p i : ℕ) → p < k → i / 8 < size → plane_bit size planes p i ≡ bit_in base (k - 1 - p) (get_or cells i None)) where
  plane : (p : ℕ) → p < k → take size (drop (p * size) planes) ≡ bit_bytes (bit_in base (k - 1 - p)) size cells
  plane p h =
      let part = take size (drop (p * size) planes) in
      let room : p * size + size ≤ k * size = omega (arith, mul-le-mul_right {m = p + 1} {n = k} size (omega (arith, h))) in
      let count : length (take size (drop (p * size) planes)) ≡ size = omega (arith, length-take size (drop (p * size) planes), length-drop (p * size) planes, long, room) in
      let at : (q : ℕ) → q < size → get_or (take size (drop (p * size) planes)) q 0 ≡ get_or planes (p * size + q) 0 = λ q l.
      get_or-take size (drop (p * size) planes) q 0 l ∙ get_or-drop (p * size) planes q 0 in
      bytes-by_bits (bit_in base (k - 1 - p)) (few_in base (k - 1 - p)) refl size _ cells count
      (λ q l. subst (λ x. x < 256) (sym (at q l)) (small (p * size + q)))
      (λ i l. ap (λ b. bit_at b (i % 8)) (at (i / 8) l) ∙ bit p i h l)

  pub planes-by_bits : planes ≡ plane_bytes base k size cells
  planes-by_bits =
      same_number_lists planes (plane_bytes base k size cells) (long ∙ sym (length-planes base k size cells)) (λ m h.
      let some : 0 < size =
      elim (cases_lt 0 size) [
        | inl l ↦ l
        | inr none ↦ let zero_size : size ≡ 0 = omega (arith, none) in absurd (omega (arith, h, long, ap (λ n. k * n) zero_size))
      ] in
      let place : m / size * size + m % size ≡ m = div-add-mod' m size in
      let inside : m % size < size = mod-lt m some in
      let low : m / size < k = (div-lt_iff_lt-mul {k = size} {x = m} {y = k} some).1 (omega (arith, h, long)) in
      let here : get_or (take size (drop (m / size * size) planes)) (m % size) 0 ≡ get_or planes (m / size * size + m % size) 0 =
      get_or-take size (drop (m / size * size) planes) (m % size) 0 inside ∙ get_or-drop (m / size * size) planes (m % size) 0 in
      ap (λ n. get_or planes n 0) (sym place) ∙ sym here ∙ ap (λ xs. get_or xs (m % size) 0) (plane (m / size) low)
      ∙ sym (byte-planes base k size cells (m / size) (m % size) low inside)
      ∙ ap (λ n. get_or (plane_bytes base k size cells) n 0) place)

module _ (rows : ℕ) (base : ℤ) (k : ℕ) (present planes : List ℕ) (are : ArePlanes rows k present planes) where
  size : ℕ
  size = presence_size rows

  cells : List (Option ℤ)
  cells = cells_in rows base k present planes

  count : length (cells_in rows base k present planes) ≡ rows
  count = length-map-range_with_len (read_cell base k (presence_size rows) present planes) 0 rows

  cell_at : (i : ℕ) → i < rows → get_or (cells_in rows base k present planes) i None ≡ read_cell base k (presence_size rows) present planes i
  cell_at i h = get_or-map-range_with_len (read_cell base k (presence_size rows) present planes) 0 rows i i None h (omega arith)

  -- the bit of a row says whether a cell is read there
  presence-read : (i : ℕ) → bit_at (slice_index present (i / 8)) (i % 8) ≡ presence (read_cell base k (presence_size rows) present planes i)
  presence-read i = by (bit_at (slice_index present (i / 8)) (i % 8)) _ (bit_at-lt (slice_index present (i / 8)) (i % 8))
    where
      by : (b : ℕ) (z : ℤ) → b < 2 → b ≡ presence (if b == 1 then Some z else None)
      by zero z h = refl
      by (suc zero) z h = refl
      by (suc (suc b)) z h = absurd (omega (arith, h))

  -- a bit of a row's plane is that of its cell
  bit-read : (p i : ℕ) → p < k → i / 8 < presence_size rows → plane_bit (presence_size rows) planes p i ≡ bit_in base (k - 1 - p) (get_or (cells_in rows base k present planes) i None)
  bit-read p i h l =
      elim (cases_lt i rows) [
        | inl here ↦ by (bit_at (slice_index present (i / 8)) (i % 8)) refl (bit_at-lt (slice_index present (i / 8)) (i % 8)) ∙ ap (bit_in base (k - 1 - p)) (sym (cell_at i here))
        | inr past ↦
            are.inside p i h l (are.spare i past)
            ∙ sym (ap (bit_in base (k - 1 - p)) (get_or-eq_default (cells_in rows base k present planes) None (omega (arith, past, count))))
      ]
    where
      of_code : plane_bit (presence_size rows) planes p i ≡ bit_at (distance (base +ℤ pos (code_in k (presence_size rows) planes i)) base) (k - 1 - p)
      of_code =
          let far : distance (base +ℤ pos (code_in k (presence_size rows) planes i)) base ≡ code_in k (presence_size rows) planes i = omega (arith, ints) in
          let is : bit_of (code_in k (presence_size rows) planes i) (k - 1 - p) ≡ (plane_bit (presence_size rows) planes p i == 1) = number_bit (λ q. plane_bit (presence_size rows) planes q i == 1) k p h in
          same_bit (plane_bit (presence_size rows) planes p i) (bit_at (code_in k (presence_size rows) planes i) (k - 1 - p)) (bit_at-lt (slice_index planes (p * presence_size rows + i / 8)) (i % 8)) (bit_at-lt (code_in k (presence_size rows) planes i) (k - 1 - p)) (sym is)
          ∙ ap (λ n. bit_at n (k - 1 - p)) (sym far)

      by : (b : ℕ) → bit_at (slice_index present (i / 8)) (i % 8) ≡ b → b < 2 → plane_bit (presence_size rows) planes p i ≡ bit_in base (k - 1 - p) (read_cell base k (presence_size rows) present planes i)
      by zero e m = are.inside p i h l e ∙ sym (ap (λ b. bit_in base (k - 1 - p) (if b == 1 then Some (base +ℤ pos (code_in k (presence_size rows) planes i)) else None)) e)
      by (suc zero) e m = of_code ∙ sym (ap (λ b. bit_in base (k - 1 - p) (if b == 1 then Some (base +ℤ pos (code_in k (presence_size rows) planes i)) else None)) e)
      by (suc (suc b)) e m = absurd (omega (arith, m))

  pub presence-spelled : ((j : ℕ) → slice_index present j < 256) → present ≡ presence_bytes (presence_size rows) (cells_in rows base k present planes)
  presence-spelled small =
      presence-by_bits present (cells_in rows base k present planes) small (are.bits ∙ ap presence_size (sym count)) (λ i h. are.spare i (omega (arith, h, count)))
      (λ i h. presence-read i ∙ ap presence (sym (cell_at i (omega (arith, h, count)))))
      ∙ ap (λ n. presence_bytes (presence_size n) (cells_in rows base k present planes)) count

  pub planes-spelled : ((j : ℕ) → slice_index planes j < 256) → planes ≡ plane_bytes base k (presence_size rows) (cells_in rows base k present planes)
  planes-spelled small = planes-by_bits base k (presence_size rows) planes (cells_in rows base k present planes) are.long small bit-read
