-- Bits of codes off the bytes of slices.
use Rattle.std.proofs.Common.{List, ap, arith, drop, eqb, false, get_or, inl, inr, length, sym, take, ℕ, ◌%◌, ◌*◌, ◌+◌, ◌-◌, ◌/◌, ◌<◌, ◌^◌, ◌≡◌, ◌≤◌, ◌∙◌, pow_pos}
use Rattle.std.specs.Int.{bit_at}
use Rattle.std.proofs.Math.Nat.{mul-div_cancel}
use Rattle.std.proofs.lemmas.Bool.{cases_lt}
use Rattle.std.proofs.lemmas.List.{get_or-drop, get_or-take, get_or_past}
use Rattle.std.proofs.lemmas.Nat.{shr-shr}
use Rattle.std.proofs.lemmas.Nat.Bits.{bit_at_cat_low}
use Rattle.bw_mask.specs.Masks.{bit_of}
use Rattle.bw_mask.proofs.Bits.{bit_of_zero}
use Rattle.bw_code.specs.Units.{digit}
use Rattle.bw_byteslice.proofs.Raised.{pow_bytes}

-- 32 bytes from a place on
pub byte_there : (slice bytes : List ℕ) (at r : ℕ) → bytes ≡ take 32 (drop at slice) → r < 32 → get_or bytes r 0 ≡ get_or slice (at + r) 0
byte_there slice bytes at r is h = ap (λ xs. get_or xs r 0) is ∙ get_or-take 32 (drop at slice) r 0 h ∙ get_or-drop at slice r 0

-- past the end of a slice nothing is set
pub row_past : (slice : List ℕ) (j i : ℕ) → length slice ≤ j → bit_of (get_or slice j 0) i ≡ false
row_past slice j i past = ap (λ b. bit_of b i) (get_or_past slice j 0 past) ∙ bit_of_zero i

-- half a word of rows at the end of a slice
pub half_word : (slice : List ℕ) (w i word : ℕ) → length slice ≤ 64 * w + 32
    → ((r : ℕ) → r < 32 → bit_of word r ≡ bit_of (get_or slice (64 * w + r) 0) i) → ((s : ℕ) → s < 32 → bit_of word (32 + s) ≡ false)
    → (r : ℕ) → r < 64 → bit_of word r ≡ bit_of (get_or slice (64 * w + r) 0) i
half_word slice w i word short low high r h =
    elim (cases_lt r 32) [
      | inl l ↦ low r l
      | inr l ↦
          let back : 32 + (r - 32) ≡ r = omega (arith, l) in
          ap (bit_of word) (sym back) ∙ high (r - 32) (omega (arith, h, l)) ∙ sym (row_past slice (64 * w + r) i (omega (arith, l, short)))
    ]

-- a byte of 0
pub digit_of_none : (m x s j : ℕ) → x ≡ 0 → digit 256 m (x * 2 ^ s) j ≡ 0
digit_of_none m x s j none =
    let nothing : x * 2 ^ s ≡ 0 = ap (λ y. y * 2 ^ s) none ∙ omega arith in
    ap (λ y. digit 256 m y j) nothing ∙ omega arith

-- bit i of a code is bit i + s of the code shifted up by s
pub bit_of_byte : (m x s i shift count : ℕ) → shift ≡ s → count ≡ m → i + s < 8 * m → bit_of (digit 256 m (x * 2 ^ s) (count - 1 - (i + shift) / 8)) ((i + shift) % 8) ≡ bit_of x i
bit_of_byte m x s i shift count shift_is count_is h =
    let p = i + s in
    let e = p / 8 in
    let b = p % 8 in
    let y = x * 2 ^ s in
    let place : m - 1 - (m - 1 - e) ≡ e = omega arith in
    let z = y / 2 ^ (8 * e) in
    let high : digit 256 m y (m - 1 - e) ≡ z % 2 ^ 8 = ap (λ n. y / 256 ^ n % 256) place ∙ ap (λ d. y / d % 256) (pow_bytes e) in
    let whole : z ≡ z / 2 ^ 8 * 2 ^ 8 + z % 2 ^ 8 = omega arith in
    let low : bit_at (z % 2 ^ 8) b ≡ bit_at z b = sym (ap (λ n. bit_at n b) whole ∙ bit_at_cat_low (z / 2 ^ 8) 8 (z % 2 ^ 8) b (omega arith)) in
    let sum : 8 * e + b ≡ s + i = omega arith in
    let moved : z / 2 ^ b ≡ x / 2 ^ i = shr-shr y (8 * e) b ∙ ap (λ n. y / 2 ^ n) sum ∙ sym (shr-shr y s i) ∙ ap (λ n. n / 2 ^ i) (mul-div_cancel x (pow_pos s)) in
    ap (λ n. bit_of (digit 256 m y (count - 1 - (i + n) / 8)) ((i + n) % 8)) shift_is
    ∙ ap (λ n. bit_of (digit 256 m y (n - 1 - e)) b) count_is
    ∙ ap (λ n. bit_of n b) high
    ∙ ap (λ n. eqb n 1) (low ∙ ap (λ n. n % 2) moved)
