-- The bits of rows as a word, by the bytes that have them.
use Rattle.std.proofs.Common.{List, ap, arith, drop, inl, inr, length, replicate, slice_index, subst, suc, sym, zero, ℕ, ◌%◌, ◌*◌, ◌+◌, ◌++◌, ◌-◌, ◌/◌, ◌<◌, ◌==◌, ◌^◌, ◌≡◌, ◌≤◌, ◌∙◌}
use Rattle.std.proofs.Math.ListN.{get_or-eq_default}
use Rattle.std.proofs.lemmas.Bool.{cases_lt}
use Rattle.std.proofs.lemmas.List.{get_or-append-add, get_or-drop, get_or_append_left, length-replicate}
use Rattle.std.proofs.lemmas.Nat.Bits.{bit_at_cat_high, bit_at_cat_low}
use Rattle.std.proofs.lemmas.Simd.{get_or-replicate}
use Rattle.std.specs.Int.{bit_at}
use Rattle.byteorder.specs.Endian.{little_from, little_number}
use Rattle.bw_mask.specs.Masks.{bit_of}

-- a bit of a number is that of its byte
bit_from : (n i k : ℕ) (bytes : List ℕ) → ((j : ℕ) → slice_index bytes j < 256) → k < 8 * n → bit_at (little_from i n bytes) k ≡ bit_at (slice_index bytes (i + k / 8)) (k % 8)
bit_from zero i k bytes small h = absurd (omega (arith, h))
bit_from (suc n) i k bytes small h =
    let byte = slice_index bytes i in
    let rest = little_from (suc i) n bytes in
    let order : byte + 256 * rest ≡ rest * 2 ^ 8 + byte = omega arith in
    ap (λ number. bit_at number k) order
    ∙ elim (cases_lt k 8) [
      | inl low ↦
          let place : i ≡ i + k / 8 = omega (arith, low) in
          let bit : k ≡ k % 8 = omega (arith, low) in
          bit_at_cat_low rest 8 byte k low ∙ ap (λ p. bit_at (slice_index bytes p) k) place ∙ ap (bit_at (slice_index bytes (i + k / 8))) bit
      | inr high ↦
          let place : suc i + (k - 8) / 8 ≡ i + k / 8 = omega (arith, high) in
          let bit : (k - 8) % 8 ≡ k % 8 = omega (arith, high) in
          bit_at_cat_high rest 8 byte k (small i) high
          ∙ bit_from n (suc i) (k - 8) bytes small (omega (arith, h, high))
          ∙ ap (λ p. bit_at (slice_index bytes p) ((k - 8) % 8)) place ∙ ap (bit_at (slice_index bytes (i + k / 8))) bit
    ]

pub bit_of_bytes : (n k : ℕ) (bytes : List ℕ) → ((j : ℕ) → slice_index bytes j < 256) → k < 8 * n → bit_of (little_number n bytes) k ≡ bit_of (slice_index bytes (k / 8)) (k % 8)
bit_of_bytes n k bytes small h =
    let place : 0 + k / 8 ≡ k / 8 = omega arith in
    ap (λ b. b == 1) (bit_from n 0 k bytes small h ∙ ap (λ p. bit_at (slice_index bytes p) (k % 8)) place)

-- fewer bytes than a word has are read with zeros after them
zero_at : (j : ℕ) → slice_index (replicate {A = ℕ} 8 0) j ≡ 0
zero_at j =
    elim (cases_lt j 8) [
      | inl low ↦ get_or-replicate 8 j 0 0 low
      | inr high ↦ (let past : length (replicate {A = ℕ} 8 0) ≤ j = omega (arith, length-replicate {A = ℕ} 8 0, high) in get_or-eq_default (replicate {A = ℕ} 8 0) 0 past)
    ]

padded_small : (bytes : List ℕ) (n : ℕ) → ((j : ℕ) → slice_index bytes j < 256) → (j : ℕ) → slice_index (bytes ++ drop n (replicate 8 0)) j < 256
padded_small bytes n small j =
    let rest : List ℕ = drop n (replicate 8 0) in
    elim (cases_lt j (length bytes)) [
      | inl here ↦ subst (λ x. x < 256) (sym (get_or_append_left bytes rest 0 j here)) (small j)
      | inr past ↦
          let k = j - length bytes in
          let place : length bytes + k ≡ j = omega (arith, past) in
          let zero_there : slice_index (bytes ++ rest) (length bytes + k) ≡ 0 = get_or-append-add bytes rest k 0 ∙ get_or-drop n (replicate 8 0) k 0 ∙ zero_at (n + k) in
          subst (λ p. slice_index (bytes ++ rest) p < 256) place (subst (λ x. x < 256) (sym zero_there) (omega arith))
    ]

pub bit_of_padded : (k : ℕ) (bytes : List ℕ) → ((j : ℕ) → slice_index bytes j < 256) → k < 64 → k / 8 < length bytes
    → bit_of (little_number 8 (bytes ++ drop (length bytes) (replicate 8 0))) k ≡ bit_of (slice_index bytes (k / 8)) (k % 8)
bit_of_padded k bytes small h there =
    let rest : List ℕ = drop (length bytes) (replicate 8 0) in
    bit_of_bytes 8 k (bytes ++ rest) (padded_small bytes (length bytes) small) (omega (arith, h)) ∙ ap (λ b. bit_of b (k % 8)) (get_or_append_left bytes rest 0 (k / 8) there)
