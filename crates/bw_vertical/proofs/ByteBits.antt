-- Bits of the bytes of a number.
use Rattle.std.proofs.Common.{List, [], ap, arith, get_or, inl, inr, refl, replicate, suc, sym, zero, ℕ, ◌%◌, ◌*◌, ◌+◌, ◌-◌, ◌/◌, ◌<◌, ◌==◌, ◌^◌, ◌≡◌, ◌≤◌, ◌∙◌}
use Rattle.std.proofs.Math.Nat.{mul_comm, pow-suc}
use Rattle.std.proofs.Math.Pow.{pow_mono}
use Rattle.std.proofs.lemmas.Bool.{cases_lt}
use Rattle.std.proofs.lemmas.List.{get_or-replicate, get_or_past, length-replicate}
use Rattle.std.proofs.lemmas.Nat.{div-add-mod', pow-add}
use Rattle.std.proofs.lemmas.Nat.Bits.{bit_at_cat_high, bit_at_cat_low}
use Rattle.bw_mask.specs.Masks.{bit_of}
use Rattle.bw_mask.proofs.Bits.{bit_of_shr}
use Rattle.bw_code.proofs.LaneLemmas.{zeros}

pub low_bit : (n m i : ℕ) → i < m → bit_of (n % 2 ^ m) i ≡ bit_of n i
low_bit n m i h = sym (ap (λ x. bit_of x i) whole ∙ ap (λ x. x == 1) (bit_at_cat_low (n / 2 ^ m) m (n % 2 ^ m) i h))
  where
    whole : n ≡ n / 2 ^ m * 2 ^ m + n % 2 ^ m
    whole = omega (arith, div-add-mod' n (2 ^ m))

-- bit i of the m bits of a number from bit d on
pub part_bit : (n d m i : ℕ) → i < m → bit_of (n / 2 ^ d % 2 ^ m) i ≡ bit_of n (d + i)
part_bit n d m i h = low_bit (n / 2 ^ d) m i h ∙ bit_of_shr n d i

-- two numbers joined: the lower has m bits
module _ (low high m i : ℕ) where
  pub bit_in_low : i < m → bit_of (low + 2 ^ m * high) i ≡ bit_of low i
  bit_in_low h = ap (λ x. bit_of x i) (omega (arith, mul_comm (2 ^ m) high)) ∙ ap (λ x. x == 1) (bit_at_cat_low high m low i h)

  pub bit_in_high : low < 2 ^ m → m ≤ i → bit_of (low + 2 ^ m * high) i ≡ bit_of high (i - m)
  bit_in_high fits h = ap (λ x. bit_of x i) (omega (arith, mul_comm (2 ^ m) high)) ∙ ap (λ x. x == 1) (bit_at_cat_high high m low i fits h)

-- bit b of four bytes stands in byte b / 8
pub joined_bit : (byte : ℕ → ℕ) → ((j : ℕ) → byte j < 2 ^ 8) → (b : ℕ) → b < 32 → bit_of (byte 0 + 2 ^ 8 * byte 1 + 2 ^ 16 * (byte 2 + 2 ^ 8 * byte 3)) b ≡ bit_of (byte (b / 8)) (b % 8)
joined_bit byte fits b h =
    let low = byte 0 + 2 ^ 8 * byte 1 in
    let high = byte 2 + 2 ^ 8 * byte 3 in
    let small : byte 0 + 2 ^ 8 * byte 1 < 2 ^ 16 = omega (arith, fits 0, fits 1) in
    elim (cases_lt b 16) [
      | inl l ↦ bit_in_low low high 16 b l ∙ in_pair 0 1 b (b / 8) l refl (omega arith)
      | inr l ↦
          let bit : (b - 16) % 8 ≡ b % 8 = omega (arith, l) in
          bit_in_high low high 16 b small l ∙ in_pair 2 3 (b - 16) (b / 8) (omega (arith, h, l)) refl (omega (arith, l)) ∙ ap (bit_of (byte (b / 8))) bit
    ]
  where
    in_pair : (n p i j : ℕ) → i < 16 → p ≡ n + 1 → j ≡ n + i / 8 → bit_of (byte n + 2 ^ 8 * byte p) i ≡ bit_of (byte j) (i % 8)
    in_pair n p i j h next is =
        elim (cases_lt i 8) [
          | inl l ↦
              let place : n ≡ j = omega (arith, l, is) in
              let bit : i ≡ i % 8 = omega (arith, l) in
              bit_in_low (byte n) (byte p) 8 i l ∙ ap (λ x. bit_of (byte x) i) place ∙ ap (bit_of (byte j)) bit
          | inr l ↦
              let place : p ≡ j = omega (arith, h, l, next, is) in
              let bit : i - 8 ≡ i % 8 = omega (arith, h, l) in
              bit_in_high (byte n) (byte p) 8 i (fits n) l ∙ ap (λ x. bit_of (byte x) (i - 8)) place ∙ ap (bit_of (byte j)) bit
        ]

pub zeros_in_lists : (n m q r : ℕ) → ◌≡◌ {A = ℕ} (get_or (get_or (replicate n (replicate m 0)) q []) r 0) 0
zeros_in_lists n m q r =
    elim (cases_lt q n) [
      | inl h ↦ ap (λ xs. get_or xs r 0) (get_or-replicate n q (replicate m 0) [] h) ∙ zeros m r
      | inr h ↦ ap (λ xs. get_or xs r 0) (get_or_past (replicate n (replicate m 0)) q [] (omega (arith, length-replicate {A = List ℕ} n (replicate m 0))))
    ]

pub one_moved_in_a_byte : (i : ℕ) → i < 8 → 1 * 2 ^ i % 2 ^ 8 ≡ 2 ^ i
one_moved_in_a_byte i h = let low = pow_below i h in omega arith
  where
    pow_below : (j : ℕ) → j < 8 → 2 ^ j < 2 ^ 8
    pow_below j p = omega (arith, pow_mono {i = j} {j = 7} (omega arith))

pub places_of_bytes : (i : ℕ) → (2 ^ 8) ^ i ≡ 2 ^ (8 * i)
places_of_bytes zero = refl
places_of_bytes (suc i) =
    let more : 8 * suc i ≡ 8 * i + 8 = omega arith in
    pow-suc (2 ^ 8) i ∙ ap (λ x. x * 2 ^ 8) (places_of_bytes i) ∙ sym (ap (λ e. 2 ^ e) more ∙ pow-add 2 (8 * i) 8)
