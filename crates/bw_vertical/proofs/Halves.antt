-- Codes from the words of their planes, 32 bits at a time.
use Rattle.std.proofs.Common.{List, ap, arith, cond, get_or, inl, inr, sym, ℕ, ◌%◌, ◌*◌, ◌+◌, ◌-◌, ◌/◌, ◌<◌, ◌==◌, ◌^◌, ◌≡◌, ◌≤◌, ◌∙◌}
use Rattle.std.proofs.Math.Nat.{zero-add}
use Rattle.std.proofs.Math.Pow.{pow_mono}
use Rattle.std.proofs.lemmas.Bool.{cases_lt}
use Rattle.std.proofs.lemmas.Nat.Bits.{bit_at_above, same_from_bits_below}
use Rattle.bw_mask.specs.Masks.{bit_of}
use Rattle.bw_mask.proofs.Bits.{bit_of_shr, bit_of_zero}
use Rattle.bw_vertical.specs.Storage.{code_of, word_of}
use Rattle.bw_vertical.proofs.ByteBits.{low_bit}
use Rattle.bw_vertical.proofs.Holding.{code_bit, code_lt}
use Rattle.bw_vertical.proofs.Numbers.{bit_is}
use Rattle.bw_vertical.proofs.Settings.{word_row}

-- bit b of 32 bits of a number
pub half_bit : (x from b : ℕ) → b < 32 → bit_of (x / 2 ^ from % 2 ^ 32) b ≡ bit_of x (from + b)
half_bit x from b h = low_bit (x / 2 ^ from) 32 b h ∙ bit_of_shr x from b

below_32 : (x : ℕ) → x % 2 ^ 32 < 2 ^ 32
below_32 x = omega arith

-- 32 bits are those of a number if each of them is
pub half_is : (x from half : ℕ) → half < 2 ^ 32 → ((b : ℕ) → b < 32 → bit_of half b ≡ bit_of x (from + b)) → half ≡ x / 2 ^ from % 2 ^ 32
half_is x from half small each =
    same_from_bits_below 32 half (x / 2 ^ from % 2 ^ 32) small (below_32 (x / 2 ^ from)) (λ b l.
    sym (bit_is half b) ∙ ap (λ t. cond {A = ℕ} t 1 0) (each b l ∙ sym (half_bit x from b l)) ∙ bit_is (x / 2 ^ from % 2 ^ 32) b)

-- row r of the words of the planes is the code of row r of word w
module _ (k w r : ℕ) (gs : List (List (List ℕ))) (words : List ℕ) (low : r < 64) (planes : (i : ℕ) → i < k → get_or words (k - 1 - i) 0 ≡ word_of k gs i w) (rest : (b : ℕ) → k ≤ b → get_or words b 0 ≡ 0) where
  pub word_bit : (b : ℕ) → bit_of (get_or words b 0) r ≡ bit_of (code_of k gs (64 * w + r)) b
  word_bit b =
      elim (cases_lt b k) [
        | inl p ↦
            let inside : k - 1 - b < k = omega (arith, p) in
            let back : k - 1 - (k - 1 - b) ≡ b = omega (arith, p) in
            ap (λ n. bit_of (get_or words n 0) r) (sym back)
            ∙ ap (λ v. bit_of v r) (planes (k - 1 - b) inside)
            ∙ sym (word_row k (k - 1 - b) w r gs low)
            ∙ sym (code_bit k (k - 1 - b) (64 * w + r) gs inside)
            ∙ ap (bit_of (code_of k gs (64 * w + r))) back
        | inr p ↦
            ap (λ v. bit_of v r) (rest b p) ∙ bit_of_zero r
            ∙ sym (ap (λ n. n == 1) (bit_at_above (code_of k gs (64 * w + r)) k b (code_lt k gs (64 * w + r)) p))
      ]

  pub narrow_code : k ≤ 32 → (x : ℕ) → x < 2 ^ 32 → ((b : ℕ) → b < 32 → bit_of x b ≡ bit_of (get_or words b 0) r) → x ≡ code_of k gs (64 * w + r)
  narrow_code narrow x small each =
      let code = code_of k gs (64 * w + r) in
      let most : 2 ^ k ≤ 2 ^ 32 = pow_mono {i = k} {j = 32} narrow in
      half_is code 0 x small (λ b l. each b l ∙ word_bit b ∙ ap (bit_of code) (sym (zero-add b))) ∙ omega (arith, most, code_lt k gs (64 * w + r))

  pub wide_code : k ≤ 64 → (x y : ℕ) → x < 2 ^ 32 → y < 2 ^ 32 → ((b : ℕ) → b < 32 → bit_of x b ≡ bit_of (get_or words b 0) r)
      → ((b : ℕ) → b < 32 → bit_of y b ≡ bit_of (get_or words (32 + b) 0) r) → x + 2 ^ 32 * y ≡ code_of k gs (64 * w + r)
  wide_code narrow x y small high each each_high =
      let code = code_of k gs (64 * w + r) in
      let most : 2 ^ k ≤ 2 ^ 64 = pow_mono {i = k} {j = 64} narrow in
      let first : x ≡ code / 2 ^ 0 % 2 ^ 32 = half_is code 0 x small (λ b l. each b l ∙ word_bit b ∙ ap (bit_of code) (sym (zero-add b))) in
      let second : y ≡ code / 2 ^ 32 % 2 ^ 32 = half_is code 32 y high (λ b l. each_high b l ∙ word_bit (32 + b)) in
      omega (arith, first, second, most, code_lt k gs (64 * w + r))
