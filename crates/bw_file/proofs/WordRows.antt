-- Rows of words, 64 in each.
use Rattle.std.proofs.Common.{List, None, Option, ap, arith, drop, get_or, inl, inr, length, length-drop, length-take, map, min, nat_lt, set, subst, sym, take, ℕ, ℤ, ◌%◌, ◌*◌, ◌+◌, ◌-◌, ◌/◌, ◌<◌, ◌≡◌, ◌≢◌, ◌≤◌, ◌∙◌, get_or-set_other, get_or-set_same}
use Rattle.std.proofs.lemmas.Bool.{cases_lt, le-ltb, lt-ltb}
use Rattle.std.proofs.lemmas.List.{get_or-drop, get_or-map, get_or-take, get_or_past, length-map}
use Rattle.byteorder.specs.Endian.{little_number}
use Rattle.bw_mask.specs.Masks.{bit_of, row_in}
use Rattle.bw_file.proofs.RowBits.{bit_of_bytes}

-- one word is set: its rows are those of the new word, and no others change
module _ (words : List ℕ) (j word i : ℕ) where
  pub row_here : j < length words → i / 64 ≡ j → row_in (set words j word) i ≡ bit_of word (i % 64)
  row_here there is = ap (λ q. bit_of (get_or (set words j word) q 0) (i % 64)) is ∙ ap (λ w. bit_of w (i % 64)) (get_or-set_same words j word 0 there)

  pub row_elsewhere : i / 64 ≢ j → row_in (set words j word) i ≡ row_in words i
  row_elsewhere far = ap (λ w. bit_of w (i % 64)) (get_or-set_other words j (i / 64) word 0 far)

-- a row of word j is one of the first `count` rows where it is one of those of the word that are among them
pub below_count : (count j n q : ℕ) → n ≡ min (count - 64 * j) 64 → q < 64 → nat_lt q n ≡ nat_lt (64 * j + q) count
below_count count j n q size row =
    elim (cases_lt (64 * j + q) count) [
      | inl here ↦ lt-ltb q n (omega (arith, here, size, row)) ∙ sym (lt-ltb (64 * j + q) count here)
      | inr past ↦ le-ltb q n (omega (arith, past, size)) ∙ sym (le-ltb (64 * j + q) count past)
    ]

part_small : (bytes : List ℕ) (first n : ℕ) → ((j : ℕ) → get_or bytes j 0 < 256) → (j : ℕ) → get_or (take n (drop first bytes)) j 0 < 256
part_small bytes first n small j =
    elim (cases_lt j n) [
      | inl here ↦ subst (λ x. x < 256) (sym (get_or-take n (drop first bytes) j 0 here ∙ get_or-drop first bytes j 0)) (small (first + j))
      | inr past ↦ subst (λ x. x < 256) (sym (get_or_past (take n (drop first bytes)) j 0 (omega (arith, past, length-take n (drop first bytes))))) (omega arith)
    ]

-- words that are read from bytes have their bits
whole_rows : (bytes words : List ℕ) → ((j : ℕ) → get_or bytes j 0 < 256) → ((m : ℕ) → m < length words → get_or words m 0 ≡ little_number 8 (drop (8 * m) bytes))
    → (i : ℕ) → i / 64 < length words → row_in words i ≡ bit_of (get_or bytes (i / 8) 0) (i % 8)
whole_rows bytes words small read i there =
    let m = i / 64 in
    let rest = drop (8 * m) bytes in
    let place : 8 * m + i % 64 / 8 ≡ i / 8 = omega arith in
    let bit : i % 64 % 8 ≡ i % 8 = omega arith in
    ap (λ w. bit_of w (i % 64)) (read m there)
    ∙ bit_of_bytes 8 (i % 64) rest (λ j. subst (λ x. x < 256) (sym (get_or-drop (8 * m) bytes j 0)) (small (8 * m + j))) (omega arith)
    ∙ ap (λ b. bit_of b (i % 64 % 8)) (get_or-drop (8 * m) bytes (i % 64 / 8) 0)
    ∙ ap (λ q. bit_of (get_or bytes q 0) (i % 64 % 8)) place ∙ ap (bit_of (get_or bytes (i / 8) 0)) bit

-- n bytes from the byte of row `at` on
pub rows_of_part : (bytes words : List ℕ) (at n : ℕ) → at % 8 ≡ 0 → 8 * length words ≤ n → ((j : ℕ) → get_or bytes j 0 < 256)
    → ((m : ℕ) → m < length words → get_or words m 0 ≡ little_number 8 (drop (8 * m) (take n (drop (at / 8) bytes))))
    → (i : ℕ) → i / 64 < length words → row_in words i ≡ bit_of (get_or bytes ((at + i) / 8) 0) ((at + i) % 8)
rows_of_part bytes words at n first room small read i there =
    let part = take n (drop (at / 8) bytes) in
    let inside : i / 8 < n = omega (arith, there, room) in
    let byte : at / 8 + i / 8 ≡ (at + i) / 8 = omega (arith, first) in
    let bit : i % 8 ≡ (at + i) % 8 = omega (arith, first) in
    whole_rows part words (part_small bytes (at / 8) n small) read i there
    ∙ ap (λ b. bit_of b (i % 8)) (get_or-take n (drop (at / 8) bytes) (i / 8) 0 inside ∙ get_or-drop (at / 8) bytes (i / 8) 0)
    ∙ ap (λ q. bit_of (get_or bytes q 0) (i % 8)) byte ∙ ap (bit_of (get_or bytes ((at + i) / 8) 0)) bit

-- the cells of word j of a block of `count` cells are a part of those of the block
module _ (cells : List (Option ℤ)) (at count j from n q : ℕ) (inside : at + count ≤ length cells) (start : from ≡ min count (64 * j)) (size : n ≡ min (count - from) 64) (row : q < 64) where
  abbrev word : List (Option ℤ)
  word = take n (drop (at + from) cells)

  abbrev block : List (Option ℤ)
  block = take count (drop at cells)

  length_word : length word ≡ n
  length_word = omega (arith, inside, start, size, length-take n (drop (at + from) cells), length-drop (at + from) cells)

  length_block : length block ≡ count
  length_block = omega (arith, inside, length-take count (drop at cells), length-drop at cells)

  pub cell_of_word : get_or word q None ≡ get_or block (64 * j + q) None
  cell_of_word =
      elim (cases_lt (64 * j + q) count) [
        | inl here ↦
            let low : q < n = omega (arith, here, start, size, row) in
            let place : at + from + q ≡ at + (64 * j + q) = omega (arith, here, start) in
            get_or-take n (drop (at + from) cells) q None low ∙ get_or-drop (at + from) cells q None ∙ ap (λ i. get_or cells i None) place
            ∙ sym (get_or-take count (drop at cells) (64 * j + q) None here ∙ get_or-drop at cells (64 * j + q) None)
        | inr past ↦ get_or_past word q None (omega (arith, past, start, size, length_word)) ∙ sym (get_or_past block (64 * j + q) None (omega (arith, past, length_block)))
      ]

  pub number_of_word : (f : Option ℤ → ℕ) → get_or (map f word) q 0 ≡ get_or (map f block) (64 * j + q) 0
  number_of_word f =
      elim (cases_lt (64 * j + q) count) [
        | inl here ↦
            get_or-map f word q None 0 (omega (arith, here, start, size, row, length_word)) ∙ ap f cell_of_word ∙ sym (get_or-map f block (64 * j + q) None 0 (omega (arith, here, length_block)))
        | inr past ↦
            get_or_past (map f word) q 0 (omega (arith, past, start, size, length_word, length-map word f)) ∙ sym (get_or_past (map f block) (64 * j + q) 0 (omega (arith, past, length_block, length-map block f)))
      ]
