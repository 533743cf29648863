-- Words and their bytes, as vectors.
use Rattle.std.proofs.Common.{List, [], ap, arith, drop, get_or, inl, inr, length-take, subst, suc, sym, take, ℕ, ◌%◌, ◌*◌, ◌+◌, ◌-◌, ◌/◌, ◌<◌, ◌==◌, ◌^◌, ◌≡◌, ◌∙◌, ◌∷◌}
use Rattle.std.proofs.lemmas.Bool.{cases_lt}
use Rattle.std.proofs.lemmas.List.{get_or-drop, get_or-take, get_or_past}
use Rattle.std.proofs.lemmas.Nat.Bits.{bit_at-zero, bit_at_cat_high, bit_at_cat_low}
use Rattle.std.specs.Int.{bit_at}
use Rattle.bw_mask.specs.Masks.{bit_of}
use lib.Lanes.{number_l}

-- the bits of a number are those of its bytes
pub number_bit : (bytes : List ℕ) → ((j : ℕ) → get_or bytes j 0 < 256) → (k : ℕ) → bit_at (number_l 256 bytes) k ≡ bit_at (get_or bytes (k / 8) 0) (k % 8)
number_bit [] small k = bit_at-zero k ∙ sym (bit_at-zero (k % 8))
number_bit (x ∷ xs) small k =
    let rest = number_l 256 xs in
    let order : x + 256 * rest ≡ rest * 2 ^ 8 + x = omega arith in
    ap (λ number. bit_at number k) order
    ∙ elim (cases_lt k 8) [
      | inl low ↦
          let place : 0 ≡ k / 8 = omega (arith, low) in
          let bit : k ≡ k % 8 = omega (arith, low) in
          bit_at_cat_low rest 8 x k low ∙ ap (λ p. bit_at (get_or (x ∷ xs) p 0) k) place ∙ ap (bit_at (get_or (x ∷ xs) (k / 8) 0)) bit
      | inr high ↦
          let place : suc ((k - 8) / 8) ≡ k / 8 = omega (arith, high) in
          let bit : (k - 8) % 8 ≡ k % 8 = omega (arith, high) in
          bit_at_cat_high rest 8 x k (small 0) high
          ∙ number_bit xs (λ j. small (suc j)) (k - 8)
          ∙ ap (λ p. bit_at (get_or (x ∷ xs) p 0) ((k - 8) % 8)) place ∙ ap (bit_at (get_or (x ∷ xs) (k / 8) 0)) bit
    ]

small_part : (n : ℕ) (bytes : List ℕ) → ((j : ℕ) → get_or bytes j 0 < 256) → (j : ℕ) → get_or (take n bytes) j 0 < 256
small_part n bytes small j =
    elim (cases_lt j n) [
      | inl here ↦ subst (λ x. x < 256) (sym (get_or-take n bytes j 0 here)) (small j)
      | inr past ↦ subst (λ x. x < 256) (sym (get_or_past (take n bytes) j 0 (omega (arith, past, length-take n bytes)))) (omega arith)
    ]

-- the bits of eight of the first 64 bytes
pub part_bit : (bytes : List ℕ) → ((j : ℕ) → get_or bytes j 0 < 256) → (i : ℕ) → i < 512 → bit_of (number_l 256 (take 8 (drop (8 * (i / 64)) (take 64 bytes)))) (i % 64) ≡ bit_of (get_or bytes (i / 8) 0) (i % 8)
part_bit bytes small i h =
    let m = 8 * (i / 64) in
    let run = take 8 (drop m (take 64 bytes)) in
    let place : m + i % 64 / 8 ≡ i / 8 = omega arith in
    let bit : i % 64 % 8 ≡ i % 8 = omega arith in
    let at = get_or-take 8 (drop m (take 64 bytes)) (i % 64 / 8) 0 (omega arith) ∙ get_or-drop m (take 64 bytes) (i % 64 / 8) 0 ∙ get_or-take 64 bytes (m + i % 64 / 8) 0 (omega (arith, h, place)) in
    ap (λ b. b == 1) (number_bit run small_run (i % 64) ∙ ap (λ w. bit_at w (i % 64 % 8)) at)
    ∙ ap (λ q. bit_of (get_or bytes q 0) (i % 64 % 8)) place ∙ ap (bit_of (get_or bytes (i / 8) 0)) bit
  where
    small_run : (j : ℕ) → get_or (take 8 (drop (8 * (i / 64)) (take 64 bytes))) j 0 < 256
    small_run j = small_part 8 (drop (8 * (i / 64)) (take 64 bytes)) (λ q. subst (λ x. x < 256) (sym (get_or-drop (8 * (i / 64)) (take 64 bytes) q 0)) (small_part 64 bytes small (8 * (i / 64) + q))) j
