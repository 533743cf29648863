-- Numbers by the words of their planes.
use Rattle.std.proofs.Common.{List, ap, arith, false, get_or, inl, inr, subst, sym, ℕ, ◌%◌, ◌*◌, ◌+◌, ◌-◌, ◌/◌, ◌<◌, ◌==◌, ◌^◌, ◌≡◌, ◌≤◌, ◌∙◌}
use Rattle.std.specs.Simd.Lanes.{mask_l}
use Rattle.std.proofs.Math.Nat.{zero-add}
use Rattle.std.proofs.Math.Pow.{pow_mono}
use Rattle.std.proofs.lemmas.Bool.{cases_lt}
use Rattle.std.proofs.lemmas.Nat.Bits.{bit_at_above}
use Rattle.std.proofs.lemmas.List.{get_or_past}
use Rattle.bw_code.proofs.Lists.{made_at, made_len}
use Rattle.bw_code.specs.Lists.{made}
use Rattle.bw_mask.specs.Masks.{bit_of, rows_of}
use Rattle.bw_mask.proofs.Bits.{bit_of_zero}
use Rattle.bw_mask.proofs.Views.{rows_are, rows_at, rows_len}
use Rattle.bw_vertical.specs.Planes.{code_by}
use Rattle.bw_vertical.proofs.Halves.{half_is}
use Rattle.bw_vertical.proofs.Numbers.{number, number_bit, number_lt}

-- the number of all k bits of a row, from the highest on, is that of its words
pub whole_number : (k : ℕ) (words : List ℕ) (r : ℕ) → number (λ q. bit_of (get_or words (k - 1 - q) 0) r) k ≡ code_by k words r
whole_number k words r =
    let f = λ (b : ℕ). bit_of (get_or words b 0) r in
    ap mask_l (rows_are k (λ i. bit_of (get_or words (k - 1 - (k - 1 - i)) 0) r) (rows_of k f) (rows_len k f) (λ i l.
    let back : k - 1 - (k - 1 - i) ≡ i = omega (arith, l) in
    rows_at k f i l ∙ ap f (sym back)))

pub code_by_bit : (k : ℕ) (words : List ℕ) (r b : ℕ) → b < k → bit_of (code_by k words r) b ≡ bit_of (get_or words b 0) r
code_by_bit k words r b h =
    let place : k - 1 - (k - 1 - b) ≡ b = omega (arith, h) in
    ap (λ c. bit_of c b) (sym (whole_number k words r)) ∙ ap (bit_of (number (λ q. bit_of (get_or words (k - 1 - q) 0) r) k)) (sym place)
    ∙ number_bit (λ q. bit_of (get_or words (k - 1 - q) 0) r) k (k - 1 - b) (omega (arith, h)) ∙ ap (λ i. bit_of (get_or words i 0) r) place

-- a row's bit is that of its word, also past the last row
pub row_of_word : (k n : ℕ) (words : List ℕ) → ((b r : ℕ) → b < k → n ≤ r → r < 64 → bit_of (get_or words b 0) r ≡ false) → (b r : ℕ) → b < k → r < 64 → bit_of (get_or words b 0) r ≡ bit_of (get_or (made n (code_by k words)) r 0) b
row_of_word k n words rest b r h l =
    elim (cases_lt r n) [
      | inl low ↦ sym (code_by_bit k words r b h) ∙ ap (λ c. bit_of c b) (sym (made_at n (code_by k words) r 0 low))
      | inr past ↦ rest b r h past l ∙ sym (bit_of_zero b) ∙ ap (λ c. bit_of c b) (sym (get_or_past (made n (code_by k words)) r 0 (omega (arith, past, made_len n (code_by k words)))))
    ]

pub code_by_lt : (k : ℕ) (words : List ℕ) (r : ℕ) → code_by k words r < 2 ^ k
code_by_lt k words r = subst (λ c. c < 2 ^ k) (whole_number k words r) (number_lt (λ q. bit_of (get_or words (k - 1 - q) 0) r) k)

-- the number of a row, of which no word from k on has a bit
module _ (k : ℕ) (words : List ℕ) (r : ℕ) (rest : (b : ℕ) → k ≤ b → b < 64 → get_or words b 0 ≡ 0) where
  row_bit : (b : ℕ) → b < 64 → bit_of (get_or words b 0) r ≡ bit_of (code_by k words r) b
  row_bit b h =
      elim (cases_lt b k) [
        | inl p ↦ sym (code_by_bit k words r b p)
        | inr p ↦ ap (λ w. bit_of w r) (rest b p h) ∙ bit_of_zero r ∙ sym (ap (λ n. n == 1) (bit_at_above (code_by k words r) k b (code_by_lt k words r) p))
      ]

  -- 32 bits are all of them where k is at most 32
  pub narrow_row : k ≤ 32 → (x : ℕ) → x < 2 ^ 32 → ((b : ℕ) → b < 32 → bit_of x b ≡ bit_of (get_or words b 0) r) → x ≡ code_by k words r
  narrow_row narrow x small each =
      let code = code_by k words r in
      let most : 2 ^ k ≤ 2 ^ 32 = pow_mono {i = k} {j = 32} narrow in
      half_is code 0 x small (λ b l. each b l ∙ row_bit b (omega (arith, l)) ∙ ap (bit_of code) (sym (zero-add b))) ∙ omega (arith, most, code_by_lt k words r)

  -- the number from its halves of 32 bits
  pub wide_row : k ≤ 64 → (x y : ℕ) → x < 2 ^ 32 → y < 2 ^ 32 → ((b : ℕ) → b < 32 → bit_of x b ≡ bit_of (get_or words b 0) r)
      → ((b : ℕ) → b < 32 → bit_of y b ≡ bit_of (get_or words (32 + b) 0) r) → x + 2 ^ 32 * y ≡ code_by k words r
  wide_row narrow x y small high each each_high =
      let code = code_by k words r in
      let most : 2 ^ k ≤ 2 ^ 64 = pow_mono {i = k} {j = 64} narrow in
      let first : x ≡ code / 2 ^ 0 % 2 ^ 32 = half_is code 0 x small (λ b l. each b l ∙ row_bit b (omega (arith, l)) ∙ ap (bit_of code) (sym (zero-add b))) in
      let second : y ≡ code / 2 ^ 32 % 2 ^ 32 = half_is code 32 y high (λ b l. each_high b l ∙ row_bit (32 + b) (omega (arith, l))) in
      omega (arith, first, second, most, code_by_lt k words r)
