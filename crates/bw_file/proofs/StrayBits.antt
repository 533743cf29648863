-- Bits of planes where no bit of a cell is set.
use Rattle.std.proofs.Common.{Bool, List, ap, arith, bit_and, bit_or, drop, false, get_or, nat_lt, not, refl, suc, sym, take, true, w8, zero, ℕ, ◌%◌, ◌&&◌, ◌*◌, ◌+◌, ◌-◌, ◌/◌, ◌<◌, ◌==◌, ◌||◌, ◌≡◌, ◌≤◌, ◌∙◌}
use Rattle.std.specs.Int.{bit_at}
use Rattle.std.proofs.lemmas.List.{get_or-drop, get_or-take}
use Rattle.std.proofs.lemmas.Nat.{and_le_l, and_le_r}
use Rattle.std.proofs.lemmas.Nat.Bits.{bit_at-lt, bit_at-zero, bit_at_not, same_from_bits, same_from_bits_below}
use Rattle.bw_mask.specs.Masks.{bit_of}
use Rattle.bw_mask.proofs.Bits.{bit_of_and, bit_of_or, bit_of_zero}
use Rattle.bw_file.specs.Planes.{plane_bit}

no_bit : (b : ℕ) → b < 2 → (b == 1) ≡ false → b ≡ 0
no_bit zero h e = refl
no_bit (suc zero) h e = absurd cc
no_bit (suc (suc b)) h e = absurd (omega (arith, h))

none : (a : Bool) → (a && false) ≡ false
none true = refl
none false = refl

no_and : (a b : Bool) → (b ≡ false → a ≡ false) → (a && not b) ≡ false
no_and a true f = none a
no_and a false f = rw (f refl) refl

and_no : (a b : Bool) → (a && not b) ≡ false → b ≡ false → a ≡ false
and_no a true e f = absurd cc
and_no true false e f = absurd cc
and_no false false e f = refl

no_or : (a b : Bool) → (a || b) ≡ false → (a ≡ false) × (b ≡ false)
no_or true b e = absurd cc
no_or false b e = (refl, e)

-- the bits that were taken at a plane's place are the plane's
pub plane_word : (size at count p word : ℕ) (planes : List ℕ) → at % 8 ≡ 0 → ((r : ℕ) → bit_of word r ≡ (bit_of (get_or planes ((8 * (p * size) + at + r) / 8) 0) ((8 * (p * size) + at + r) % 8) && nat_lt r count))
    → (r : ℕ) → bit_of word r ≡ ((plane_bit size planes p (at + r) == 1) && nat_lt r count)
plane_word size at count p word planes first is r =
    let byte : (8 * (p * size) + at + r) / 8 ≡ p * size + (at + r) / 8 = omega arith in
    let place : (8 * (p * size) + at + r) % 8 ≡ (at + r) % 8 = omega arith in
    is r ∙ ap (λ n. bit_of (get_or planes n 0) ((8 * (p * size) + at + r) % 8) && nat_lt r count) byte
    ∙ ap (λ n. bit_of (get_or planes (p * size + (at + r) / 8) 0) n && nat_lt r count) place

-- two numbers that together have no bit have none
pub or_none : (a b : ℕ) → bit_or a b ≡ 0 → (a ≡ 0) × (b ≡ 0)
or_none a b e = (
  same_from_bits a 0 (λ i. no_bit (bit_at a i) (bit_at-lt a i) (no_or (bit_of a i) (bit_of b i) (off i)).0 ∙ sym (bit_at-zero i)),
  same_from_bits b 0 (λ i. no_bit (bit_at b i) (bit_at-lt b i) (no_or (bit_of a i) (bit_of b i) (off i)).1 ∙ sym (bit_at-zero i)),
)
  where
    off : (i : ℕ) → (bit_of a i || bit_of b i) ≡ false
    off i = sym (bit_of_or a b i) ∙ ap (λ w. bit_of w i) e ∙ bit_of_zero i

not_there : (t i : ℕ) → t < 256 → i < 8 → bit_of (255 - t) i ≡ not (bit_of t i)
not_there t i small low = grind (arith, bit_at_not w8 t i small low, bit_at-lt t i)

pub stray_bit : (w t i : ℕ) → t < 256 → i < 8 → bit_of (bit_and w (255 - t)) i ≡ (bit_of w i && not (bit_of t i))
stray_bit w t i small low = bit_of_and w (255 - t) i ∙ ap (λ x. bit_of w i && x) (not_there t i small low)

-- where a byte has no bit beyond another, it has none where that has none
pub none_in : (w t i : ℕ) → t < 256 → i < 8 → bit_and w (255 - t) ≡ 0 → bit_at t i ≡ 0 → bit_at w i ≡ 0
none_in w t i small low empty null =
    let both : (bit_of w i && not (bit_of t i)) ≡ false = sym (stray_bit w t i small low) ∙ ap (λ x. bit_of x i) empty ∙ bit_of_zero i in
    no_bit (bit_at w i) (bit_at-lt w i) (and_no (bit_of w i) (bit_of t i) both (ap (λ b. b == 1) null))

-- and the other way
pub none_there : (w t : ℕ) → w < 256 → t < 256 → ((i : ℕ) → i < 8 → bit_at t i ≡ 0 → bit_at w i ≡ 0) → bit_and w (255 - t) ≡ 0
none_there w t fits small clean =
    same_from_bits_below 8 (bit_and w (255 - t)) 0 (omega (arith, and_le_l w (255 - t), fits)) (omega arith) (λ i h.
    no_bit (bit_at (bit_and w (255 - t)) i) (bit_at-lt (bit_and w (255 - t)) i) (stray_bit w t i small h ∙ no_and (bit_of w i) (bit_of t i) (by i h)) ∙ sym (bit_at-zero i))
  where
    by : (i : ℕ) → i < 8 → bit_of t i ≡ false → bit_of w i ≡ false
    by i h off = ap (λ b. b == 1) (clean i h (no_bit (bit_at t i) (bit_at-lt t i) off))

-- a plane cut out of the others, of n bytes
module _ (size p n : ℕ) (present planes : List ℕ) (long : size ≤ n) (small : (j : ℕ) → get_or present j 0 < 256) (fits : (j : ℕ) → get_or planes j 0 < 256) where
  plane_byte : (j : ℕ) → j < size → get_or (take n (drop (p * size) planes)) j 0 ≡ get_or planes (p * size + j) 0
  plane_byte j h = get_or-take n (drop (p * size) planes) j 0 (omega (arith, h, long)) ∙ get_or-drop (p * size) planes j 0

  -- without a bit beyond those of the rows, by bits
  pub clean_bits : ((j : ℕ) → j < size → bit_and (get_or (take n (drop (p * size) planes)) j 0) (255 - get_or present j 0) ≡ 0)
      → (i : ℕ) → i / 8 < size → bit_at (get_or present (i / 8) 0) (i % 8) ≡ 0 → plane_bit size planes p i ≡ 0
  clean_bits clean i h null =
      none_in (get_or planes (p * size + i / 8) 0) (get_or present (i / 8) 0) (i % 8) (small (i / 8)) (omega arith)
      (ap (λ w. bit_and w (255 - get_or present (i / 8) 0)) (sym (plane_byte (i / 8) h)) ∙ clean (i / 8) h) null

  -- by bytes
  pub clean_bytes : ((i : ℕ) → i / 8 < size → bit_at (get_or present (i / 8) 0) (i % 8) ≡ 0 → plane_bit size planes p i ≡ 0)
      → (j : ℕ) → j < size → bit_and (get_or (take n (drop (p * size) planes)) j 0) (255 - get_or present j 0) ≡ 0
  clean_bytes clean j h =
      ap (λ w. bit_and w (255 - get_or present j 0)) (plane_byte j h)
      ∙ none_there (get_or planes (p * size + j) 0) (get_or present j 0) (fits (p * size + j)) (small j) (λ i low null.
      let byte : (8 * j + i) / 8 ≡ j = omega (arith, low) in
      let place : (8 * j + i) % 8 ≡ i = omega (arith, low) in
      let here : bit_at (get_or present ((8 * j + i) / 8) 0) ((8 * j + i) % 8) ≡ 0 = ap (λ m. bit_at (get_or present m 0) ((8 * j + i) % 8)) byte ∙ ap (bit_at (get_or present j 0)) place ∙ null in
      ap (λ m. bit_at (get_or planes (p * size + m) 0) i) (sym byte) ∙ ap (bit_at (get_or planes (p * size + (8 * j + i) / 8) 0)) (sym place) ∙ clean (8 * j + i) (omega (arith, byte, h)) here)

pub and_none : (w : ℕ) → bit_and w (255 - 255) ≡ 0
and_none w = let few = and_le_r w 0 in omega (arith, few)

-- a byte of a plane and of the rows, cut out together from some byte on
module _ (size p full n m : ℕ) (present planes : List ℕ) (j : ℕ) (low : full + j < size) (in_plane : j < n) (in_rows : j < m) where
  plane_is : get_or (take n (drop (p * size + full) planes)) j 0 ≡ get_or (take size (drop (p * size) planes)) (full + j) 0
  plane_is =
      let place : p * size + full + j ≡ p * size + (full + j) = omega arith in
      get_or-take n (drop (p * size + full) planes) j 0 in_plane ∙ get_or-drop (p * size + full) planes j 0 ∙ ap (λ q. get_or planes q 0) place
      ∙ sym (get_or-take size (drop (p * size) planes) (full + j) 0 low ∙ get_or-drop (p * size) planes (full + j) 0)

  row_is : get_or (take m (drop full present)) j 0 ≡ get_or present (full + j) 0
  row_is = get_or-take m (drop full present) j 0 in_rows ∙ get_or-drop full present j 0

  pub cut_byte : bit_and (get_or (take n (drop (p * size + full) planes)) j 0) (255 - get_or (take m (drop full present)) j 0)
      ≡ bit_and (get_or (take size (drop (p * size) planes)) (full + j) 0) (255 - get_or present (full + j) 0)
  cut_byte = λ i. bit_and (plane_is i) (255 - row_is i)
