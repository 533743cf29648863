-- The cells of a column that lies in its bits and words.
use Rattle.std.proofs.Common.{Bool, List, None, Option, Some, ap, arith, cond, drop, false, get_or, inl, inr, length, nat_eq, refl, subst, sym, take, true, slice_index, ℕ, ℤ, ◌%◌, ◌&&◌, ◌*◌, ◌+◌, ◌-◌, ◌/◌, ◌<◌, ◌==◌, ◌^◌, ◌||◌, ◌≡◌, ◌≤◌, ◌∙◌, ◌⊎◌}
use Rattle.std.proofs.Math.Facts.{sfits_to_z}
use Rattle.std.proofs.Math.ListN.{get_or-eq_default}
use Rattle.std.proofs.lemmas.Bool.{cases_lt}
use Rattle.std.proofs.lemmas.Bool.Decides.{nat_tests}
use Rattle.std.proofs.lemmas.Int.{of_z-to_z}
use Rattle.std.proofs.lemmas.List.{drop-drop, get_or-append-add, get_or_append_left, get_or-drop, get_or-take, get_or_default, length-drop, length-take, same_lists}
use Rattle.std.proofs.lemmas.List.Elements.{All-from_get_or}
use Rattle.std.proofs.lemmas.List.FromFn.{get_or-map-range_with_len, length-map-range_with_len}
use Rattle.std.specs.Int.{bit_at, cast_signed, w32}
use Rattle.std.specs.Prelude.{All}
use Rattle.byteorder.specs.Endian.{little_number}
use Rattle.byteorder.specs.Numbers.{little_from-lt}
use Rattle.bw_file.specs.Cells.{IsCell, cell_number}
use Rattle.bw_file.specs.Reading.{AreSpelled, cell_by, cells_in, read_cell}
use Rattle.bw_file.proofs.Agree.{both}
use borrow.Author.Count.{below_more}
use borrow.Rule.Slice.PartMut.{put_mid}

-- how many cells there are, and which
pub length-cells_in : (rows : ℕ) (present words : List ℕ) → length (cells_in rows present words) ≡ rows
length-cells_in rows present words = length-map-range_with_len (read_cell present words) 0 rows

pub cell_in : (rows : ℕ) (present words : List ℕ) (i : ℕ) → i < rows → get_or (cells_in rows present words) i None ≡ read_cell present words i
cell_in rows present words i h = get_or-map-range_with_len (read_cell present words) 0 rows i i None h (omega arith)

-- a run of them
pub run_in : (out : List (Option ℤ)) (rows at n : ℕ) (present words : List ℕ) → at + n ≤ rows → length out ≡ n → ((k : ℕ) → k < n → get_or out k None ≡ read_cell present words (at + k))
    → out ≡ take n (drop at (cells_in rows present words))
run_in out rows at n present words within long each =
    let cells = cells_in rows present words in
    let whole : length cells ≡ rows = length-cells_in rows present words in
    let size : length (take n (drop at cells)) ≡ n = omega (arith, length-take n (drop at cells), length-drop at cells) in
    same_lists out (take n (drop at cells)) (long ∙ sym size) (λ k d h.
    let there : k < n = omega arith in
    let cell : get_or (take n (drop at cells)) k d ≡ read_cell present words (at + k) =
    get_or-take n (drop at cells) k d there ∙ get_or-drop at cells k d ∙ get_or_default cells (at + k) d None (omega arith) ∙ cell_in rows present words (at + k) (omega arith) in
    get_or_default out k d None h ∙ each k there ∙ sym cell)

-- eight cells more are filled
pub eight_more : {X : Type 0} (P : ℕ → X → Type 0) (out new : List X) (d : X) (start n : ℕ) → start ≤ length out → length new ≡ 8 → ((k : ℕ) → k < start → P k (get_or out k d)) → ((j : ℕ) → j < 8 → P (start + j) (get_or new j d))
    → (k : ℕ) → k < start + 8 → P k (get_or (put_mid start n out new) k d)
eight_more P out new d start n room long before now k h = by (cases_lt k start)
  where
    front : length (take start out) ≡ start
    front = omega (arith, length-take start out)

    by : (k < start) ⊎ (start ≤ k) → P k (get_or (put_mid start n out new) k d)
    by (inl early) = subst (P k) (sym (get_or_append_left (take start out) _ d k (omega (arith, front)) ∙ get_or-take start out k d early)) (before k early)
    by (inr here) =
        let j = k - start in
        let place : start + j ≡ k = omega arith in
        let there : length (take start out) + j ≡ k = omega (arith, front) in
        let cell : get_or (put_mid start n out new) (length (take start out) + j) d ≡ get_or new j d = get_or-append-add (take start out) _ j d ∙ get_or_append_left new _ d j (omega arith) in
        subst (λ i. P i (get_or (put_mid start n out new) i d)) there (subst (P (length (take start out) + j)) (sym cell) (subst (λ i. P i (get_or new j d)) (place ∙ sym there) (now j (omega arith))))

-- a cell among eight whose bits are a byte
pub cell_of_eight : (present words : List ℕ) (at q j : ℕ) → at % 8 ≡ 0 → j < 8
    → cell_by (bit_at (slice_index present (at / 8 + q)) j) (little_number 4 (drop (4 * j) (drop (4 * (at + 8 * q)) words))) ≡ read_cell present words (at + (8 * q + j))
cell_of_eight present words at q j whole small =
    let i = at + (8 * q + j) in
    let byte : at / 8 + q ≡ i / 8 = omega arith in
    let place : j ≡ i % 8 = omega arith in
    let word : 4 * (at + 8 * q) + 4 * j ≡ 4 * i = omega arith in
    ap (λ k. cell_by (bit_at (slice_index present k) j) (little_number 4 (drop (4 * j) (drop (4 * (at + 8 * q)) words)))) byte
    ∙ ap (λ k. cell_by (bit_at (slice_index present (i / 8)) k) (little_number 4 (drop (4 * j) (drop (4 * (at + 8 * q)) words)))) place
    ∙ ap (λ xs. cell_by (bit_at (slice_index present (i / 8)) (i % 8)) (little_number 4 xs)) (drop-drop (4 * j) (4 * (at + 8 * q)) words ∙ ap (λ k. drop k words) word)

-- what is cut from bytes is bytes
pub front_small : (n : ℕ) (bytes : List ℕ) → ((k : ℕ) → slice_index bytes k < 256) → (k : ℕ) → slice_index (take n bytes) k < 256
front_small n bytes small k = by (cases_lt k n)
  where
    by : (k < n) ⊎ (n ≤ k) → slice_index (take n bytes) k < 256
    by (inl within) = subst (λ x. x < 256) (sym (get_or-take n bytes k 0 within)) (small k)
    by (inr past) = subst (λ x. x < 256) (sym (get_or-eq_default (take n bytes) 0 (omega (arith, length-take n bytes)))) (omega arith)

pub back_small : (n : ℕ) (bytes : List ℕ) → ((k : ℕ) → slice_index bytes k < 256) → (k : ℕ) → slice_index (drop n bytes) k < 256
back_small n bytes small k = subst (λ x. x < 256) (sym (get_or-drop n bytes k 0)) (small (n + k))

-- a word is below 2 ^ 32
pub word_small : (words : List ℕ) (i : ℕ) → ((k : ℕ) → slice_index words k < 256) → little_number 4 (drop i words) < 2 ^ 32
word_small words i small = little_from-lt 0 4 (drop i words) (back_small i words small)

-- all of them are NULL or an INTEGER
pub integers_in : (rows : ℕ) (present words : List ℕ) → ((k : ℕ) → slice_index words k < 256) → All IsCell (cells_in rows present words)
integers_in rows present words small =
    All-from_get_or IsCell (cells_in rows present words) None (λ i h.
    let here : i < rows = omega (arith, length-cells_in rows present words) in
    subst IsCell (sym (cell_in rows present words i here)) (by (bit_at (slice_index present (i / 8)) (i % 8) == 1) (little_number 4 (drop (4 * i) words)) (word_small words (4 * i) small)))
  where
    by : (b : Bool) (n : ℕ) → n < 2 ^ 32 → IsCell (cond b (Some (cast_signed w32 n)) None)
    by true n h = sfits_to_z {w = w32} {n = n} (omega arith)
    by false n h = tt

-- the word of a cell that is read with it, where the row's bit is set or the word is 0, and only there
pub word_of_cell : (has : Bool) (n : ℕ) → n < 2 ^ 32 → (has || nat_eq n 0) ≡ true → n ≡ cell_number (cond has (Some (cast_signed w32 n)) None)
word_of_cell true n small h = sym (of_z-to_z w32 n small)
word_of_cell false n small h = grind (arith, nat_tests)

pub cell_of_word : (has : Bool) (n : ℕ) → n ≡ cell_number (cond has (Some (cast_signed w32 n)) None) → (has || nat_eq n 0) ≡ true
cell_of_word true n e = refl
cell_of_word false n e = grind (arith, nat_tests)

-- the bit of a row among the eight of a byte
pub bit_among_eight : (present : List ℕ) (q j : ℕ) → j < 8 → (bit_at (slice_index present q) j == 1) ≡ (bit_at (slice_index present ((8 * q + j) / 8)) ((8 * q + j) % 8) == 1)
bit_among_eight present q j small =
    let byte : q ≡ (8 * q + j) / 8 = omega arith in
    let place : j ≡ (8 * q + j) % 8 = omega arith in
    ap (λ k. bit_at (slice_index present k) j == 1) byte ∙ ap (λ k. bit_at (slice_index present ((8 * q + j) / 8)) k == 1) place

-- one word more that is there, or 0
pub spelled_more : (present words : List ℕ) (i : ℕ) (agree has zero : Bool) → little_number 4 (drop (4 * i) words) < 2 ^ 32 → has ≡ (bit_at (slice_index present (i / 8)) (i % 8) == 1) → zero ≡ nat_eq (little_number 4 (drop (4 * i) words)) 0
    → (agree ≡ true → AreSpelled i present words) → (agree && (has || zero)) ≡ true → AreSpelled (i + 1) present words
spelled_more present words i agree has zero small there none before agrees =
    let parts = both agree (has || zero) agrees in
    let word = little_number 4 (drop (4 * i) words) in
    below_more (λ k. little_number 4 (drop (4 * k) words) ≡ cell_number (read_cell present words k)) i (before parts.0)
    (word_of_cell (bit_at (slice_index present (i / 8)) (i % 8) == 1) word small (rw (there, none) at parts.1))

pub zero_or_there : (present words : List ℕ) (i : ℕ) (has zero : Bool) → has ≡ (bit_at (slice_index present (i / 8)) (i % 8) == 1) → zero ≡ nat_eq (little_number 4 (drop (4 * i) words)) 0
    → little_number 4 (drop (4 * i) words) ≡ cell_number (read_cell present words i) → (has || zero) ≡ true
zero_or_there present words i has zero there none spelled = rw (there, none) (cell_of_word (bit_at (slice_index present (i / 8)) (i % 8) == 1) (little_number 4 (drop (4 * i) words)) spelled)
