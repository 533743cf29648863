-- Bits of cells, eight in a byte.
use Rattle.std.proofs.Common.{List, None, Option, [], ap, arith, drop, get_or, inl, inr, length, length-take, refl, suc, sym, take, zero, ℕ, ℤ, ◌%◌, ◌*◌, ◌+◌, ◌/◌, ◌<◌, ◌^◌, ◌≡◌, ◌≤◌, ◌∙◌, ◌∷◌}
use Rattle.std.proofs.Math.ListN.{get_or-eq_default}
use Rattle.std.proofs.Math.Nat.{pow-le-pow_right, pow-suc}
use Rattle.std.proofs.lemmas.Bool.{cases_lt}
use Rattle.std.proofs.lemmas.Grind.{same_number_lists}
use Rattle.std.proofs.lemmas.List.{drop-drop, get_or-drop, get_or-take}
use Rattle.std.proofs.lemmas.Nat.Bits.{bit_at-suc, bit_at_above, bit_at_lowest, same_from_bits_below}
use Rattle.std.specs.Int.{bit_at}
use Rattle.bw_file.specs.Planes.{bit_byte, bit_bytes}

module _ (bit : Option ℤ → ℕ) (few : (c : Option ℤ) → bit c < 2) where
  pub byte-bound : (cells : List (Option ℤ)) → bit_byte bit cells < 2 ^ length cells
  byte-bound [] = omega arith
  byte-bound (cell ∷ cells) = let rest = byte-bound cells in rw (pow-suc 2 (length cells)) (omega (arith, rest, few cell))

  pub bit-byte : (cells : List (Option ℤ)) (j : ℕ) → j < length cells → bit_at (bit_byte bit cells) j ≡ bit (get_or cells j None)
  bit-byte [] j h = absurd (omega arith)
  bit-byte (cell ∷ cells) zero h = let first : (bit cell + 2 * bit_byte bit cells) % 2 ≡ bit cell = omega (arith, few cell) in bit_at_lowest (bit_byte bit (cell ∷ cells)) ∙ first
  bit-byte (cell ∷ cells) (suc j) h =
      let half : (bit cell + 2 * bit_byte bit cells) / 2 ≡ bit_byte bit cells = omega (arith, few cell) in
      bit_at-suc (bit_byte bit (cell ∷ cells)) j ∙ ap (λ n. bit_at n j) half ∙ bit-byte cells j (omega (arith, h))

  pub length-bytes : (n : ℕ) (cells : List (Option ℤ)) → length (bit_bytes bit n cells) ≡ n
  length-bytes zero cells = refl
  length-bytes (suc n) cells = ap suc (length-bytes n (drop 8 cells))

  pub byte-bytes : (n : ℕ) (cells : List (Option ℤ)) (q : ℕ) → q < n → get_or (bit_bytes bit n cells) q 0 ≡ bit_byte bit (take 8 (drop (q * 8) cells))
  byte-bytes zero cells q h = absurd (omega arith)
  byte-bytes (suc n) cells zero h = refl
  byte-bytes (suc n) cells (suc q) h =
      let e : suc q * 8 ≡ 8 + q * 8 = omega arith in
      byte-bytes n (drop 8 cells) q (omega (arith, h)) ∙ ap (λ xs. bit_byte bit (take 8 xs)) (drop-drop (q * 8) 8 cells) ∙ ap (λ k. bit_byte bit (take 8 (drop k cells))) (sym e)

  module _ (none : bit None ≡ 0) where
    -- also past the last cell
    bit-any : (cells : List (Option ℤ)) (j : ℕ) → bit_at (bit_byte bit cells) j ≡ bit (get_or cells j None)
    bit-any cells j =
        elim (cases_lt j (length cells)) [
          | inl here ↦ bit-byte cells j here
          | inr past ↦ bit_at_above (bit_byte bit cells) (length cells) j (byte-bound cells) past ∙ sym (ap bit (get_or-eq_default cells None past) ∙ none)
        ]

    eight : (cells : List (Option ℤ)) (q j : ℕ) → j < 8 → bit_at (bit_byte bit (take 8 (drop (q * 8) cells))) j ≡ bit (get_or cells (q * 8 + j) None)
    eight cells q j h = bit-any (take 8 (drop (q * 8) cells)) j ∙ ap bit (get_or-take 8 (drop (q * 8) cells) j None h ∙ get_or-drop (q * 8) cells j None)

    -- bit i % 8 of byte i / 8 is that of cell i
    pub bit-bytes : (n : ℕ) (cells : List (Option ℤ)) (i : ℕ) → i / 8 < n → bit_at (get_or (bit_bytes bit n cells) (i / 8) 0) (i % 8) ≡ bit (get_or cells i None)
    bit-bytes n cells i h =
        let place : i / 8 * 8 + i % 8 ≡ i = omega arith in
        ap (λ b. bit_at b (i % 8)) (byte-bytes n cells (i / 8) h) ∙ eight cells (i / 8) (i % 8) (omega arith) ∙ ap (λ k. bit (get_or cells k None)) place

    -- bytes whose bits are those of cells
    pub bytes-by_bits : (n : ℕ) (bytes : List ℕ) (cells : List (Option ℤ)) → length bytes ≡ n → ((q : ℕ) → q < n → get_or bytes q 0 < 256)
        → ((i : ℕ) → i / 8 < n → bit_at (get_or bytes (i / 8) 0) (i % 8) ≡ bit (get_or cells i None)) → bytes ≡ bit_bytes bit n cells
    bytes-by_bits n bytes cells long small each =
        same_number_lists bytes (bit_bytes bit n cells) (long ∙ sym (length-bytes n cells)) (λ q h.
        let there : q < n = omega (arith, h, long) in
        let part = take 8 (drop (q * 8) cells) in
        let short : length (take 8 (drop (q * 8) cells)) ≤ 8 = omega (arith, length-take 8 (drop (q * 8) cells)) in
        let pow : 2 ^ length (take 8 (drop (q * 8) cells)) ≤ 2 ^ 8 = pow-le-pow_right {n = 2} (omega arith) {i = length (take 8 (drop (q * 8) cells))} {j = 8} short in
        let bound : bit_byte bit (take 8 (drop (q * 8) cells)) < 2 ^ 8 = omega (arith, byte-bound (take 8 (drop (q * 8) cells)), pow) in
        same_from_bits_below 8 (get_or bytes q 0) (bit_byte bit (take 8 (drop (q * 8) cells))) (small q there) bound (λ j l.
        let byte : (q * 8 + j) / 8 ≡ q = omega (arith, l) in
        let at : (q * 8 + j) % 8 ≡ j = omega (arith, l) in
        sym (ap (λ k. bit_at (get_or bytes k 0) j) byte) ∙ sym (ap (λ k. bit_at (get_or bytes ((q * 8 + j) / 8) 0) k) at)
        ∙ each (q * 8 + j) (omega (arith, byte, there)) ∙ sym (eight cells q j l))
        ∙ sym (byte-bytes n cells q there))
