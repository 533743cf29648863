-- The bits of words in their bytes, and of a plane of which a part was written.
use Rattle.std.proofs.Common.{List, [], ap, arith, get_or, inl, inr, length, length-append, refl, suc, ℕ, ◌∷◌, ◌%◌, ◌*◌, ◌+◌, ◌-◌, ◌/◌, ◌<◌, ◌==◌, ◌≡◌, ◌≤◌, ◌∙◌}
use Rattle.std.proofs.Math.Nat.{mul-le-mul_right}
use Rattle.std.proofs.lemmas.Bool.{cases_lt}
use Rattle.std.proofs.lemmas.List.{get_or-append_right, get_or_append_left}
use Rattle.std.proofs.lemmas.Nat.{div-add-mod'}
use Rattle.std.specs.Int.{bit_at, byte_at}
use Rattle.bw_mask.specs.Masks.{bit_of}
use Rattle.std.specs.List.{flat_map}
use Rattle.byteorder.specs.Endian.{little_bytes}
use Rattle.byteorder.specs.Numbers.{length-bytes_low_first}
use Rattle.bw_file.proofs.Bits.{bit-byte_at, byte_of}
use Rattle.bw_code.proofs.Parts.{before_part, behind_part, in_part}
use Rattle.bw_file.specs.Planes.{plane_bit}
use borrow.Rule.Slice.PartMut.{put_mid}

-- bytes that are the first of a word have its bits
pub word_bits : (word i : ℕ) (out : List ℕ) → get_or out (i / 8) 0 ≡ byte_at (i / 8) word → bit_of (get_or out (i / 8) 0) (i % 8) ≡ bit_of word i
word_bits word i out is =
    let place : i / 8 * 8 + i % 8 ≡ i = div-add-mod' i 8 in
    let low : i % 8 < 8 = omega arith in
    ap (λ b. bit_of b (i % 8)) is ∙ ap (λ b. b == 1) (bit-byte_at word (i / 8) (i % 8) low) ∙ ap (bit_of word) place

-- the bytes of words, one word after the other
pub length-word_bytes : (words : List ℕ) → length (flat_map (little_bytes 8) words) ≡ 8 * length words
length-word_bytes [] = refl
length-word_bytes (w ∷ ws) = omega (arith, length-append (little_bytes 8 w) (flat_map (little_bytes 8) ws), length-bytes_low_first 0 8 w, length-word_bytes ws)

word_byte : (words : List ℕ) (q : ℕ) → q < 8 * length words → get_or (flat_map (little_bytes 8) words) q 0 ≡ byte_at (q % 8) (get_or words (q / 8) 0)
word_byte [] q h = absurd (omega (arith, h))
word_byte (w ∷ ws) q h =
    let size = length-bytes_low_first 0 8 w in
    let rest = flat_map (little_bytes 8) ws in
    elim (cases_lt q 8) [
      | inl low ↦
          let byte : q ≡ q % 8 = omega (arith, low) in
          let first : 0 ≡ q / 8 = omega (arith, low) in
          get_or_append_left (little_bytes 8 w) rest 0 q (omega (arith, low, size)) ∙ byte_of 8 q w low
          ∙ ap (λ b. byte_at b w) byte ∙ ap (λ n. byte_at (q % 8) (get_or (w ∷ ws) n 0)) first
      | inr high ↦
          let byte : (q - 8) % 8 ≡ q % 8 = omega (arith, high) in
          let next : suc ((q - 8) / 8) ≡ q / 8 = omega (arith, high) in
          get_or-append_right (little_bytes 8 w) rest 8 q 0 size high ∙ word_byte ws (q - 8) (omega (arith, h, high))
          ∙ ap (λ b. byte_at b (get_or ws ((q - 8) / 8) 0)) byte ∙ ap (λ n. byte_at (q % 8) (get_or (w ∷ ws) n 0)) next
    ]

-- they have the bits of the words
pub words_bits : (words : List ℕ) (i : ℕ) → i / 8 < 8 * length words → bit_of (get_or (flat_map (little_bytes 8) words) (i / 8) 0) (i % 8) ≡ bit_of (get_or words (i / 64) 0) (i % 64)
words_bits words i h =
    let word = get_or words (i / 8 / 8) 0 in
    let low : i % 8 < 8 = omega arith in
    let bit : i / 8 % 8 * 8 + i % 8 ≡ i % 64 = omega arith in
    let place : i / 8 / 8 ≡ i / 64 = omega arith in
    ap (λ b. bit_of b (i % 8)) (word_byte words (i / 8) h) ∙ ap (λ b. b == 1) (bit-byte_at word (i / 8 % 8) (i % 8) low)
    ∙ ap (bit_of word) bit ∙ ap (λ n. bit_of (get_or words n 0) (i % 64)) place

-- n bytes of plane p, from the byte of row `at` on
module _ (k size at n p : ℕ) (planes new : List ℕ) (h : p < k) (first : at % 8 ≡ 0) (long : length planes ≡ k * size) (size_new : length new ≡ n)
    (inside : at / 8 + n ≤ size) where
  put : List ℕ
  put = put_mid (p * size + at / 8) n planes new

  fits : p * size + at / 8 + n ≤ length planes
  fits = omega (arith, long, inside, mul-le-mul_right {m = p + 1} {n = k} size (omega (arith, h)))

  pub written : (i : ℕ) → at ≤ i → i / 8 < at / 8 + n → plane_bit size (put_mid (p * size + at / 8) n planes new) p i ≡ bit_at (get_or new ((i - at) / 8) 0) ((i - at) % 8)
  written i l m =
      let byte : p * size + i / 8 - (p * size + at / 8) ≡ (i - at) / 8 = omega (arith, first, l) in
      let bit : i % 8 ≡ (i - at) % 8 = omega (arith, first, l) in
      ap (λ b. bit_at b (i % 8)) (in_part (p * size + at / 8) n planes new 0 fits size_new (p * size + i / 8) (omega (arith, l)) (omega (arith, m)))
      ∙ ap (λ q. bit_at (get_or new q 0) (i % 8)) byte ∙ ap (bit_at (get_or new ((i - at) / 8) 0)) bit

  pub kept : (q i : ℕ) → i / 8 < size → (q ≡ p → at / 8 ≤ i / 8 → at / 8 + n ≤ i / 8) → plane_bit size (put_mid (p * size + at / 8) n planes new) q i ≡ plane_bit size planes q i
  kept q i l apart = ap (λ b. bit_at b (i % 8)) same
    where
      before : q * size + i / 8 < p * size + at / 8 → get_or (put_mid (p * size + at / 8) n planes new) (q * size + i / 8) 0 ≡ get_or planes (q * size + i / 8) 0
      before = before_part (p * size + at / 8) n planes new 0 fits size_new (q * size + i / 8)

      behind : p * size + at / 8 + n ≤ q * size + i / 8 → get_or (put_mid (p * size + at / 8) n planes new) (q * size + i / 8) 0 ≡ get_or planes (q * size + i / 8) 0
      behind = behind_part (p * size + at / 8) n planes new 0 fits size_new (q * size + i / 8)

      same : get_or (put_mid (p * size + at / 8) n planes new) (q * size + i / 8) 0 ≡ get_or planes (q * size + i / 8) 0
      same =
          elim (cases_lt q p) [
            | inl less ↦ before (omega (arith, l, mul-le-mul_right {m = q + 1} {n = p} size (omega (arith, less))))
            | inr not_less ↦
                elim (cases_lt p q) [
                  | inl more ↦ behind (omega (arith, inside, mul-le-mul_right {m = p + 1} {n = q} size (omega (arith, more))))
                  | inr not_more ↦
                      let is : q ≡ p = omega (arith, not_less, not_more) in
                      let row : q * size ≡ p * size = ap (λ m. m * size) is in
                      elim (cases_lt (i / 8) (at / 8)) [
                        | inl low ↦ before (omega (arith, row, low))
                        | inr high ↦ (let past = apart is high in behind (omega (arith, row, past)))
                      ]
                ]
          ]
