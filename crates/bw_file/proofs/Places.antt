-- Where the bits and the cells of a column lie.
use Rattle.std.proofs.Common.{List, None, Option, Some, [], ap, arith, cond, drop, drop-cons, get_or, length, length-append, length-drop, length-take, refl, suc, sym, take, zero, ℕ, ℤ, ◌%◌, ◌*◌, ◌+◌, ◌++◌, ◌/◌, ◌<◌, ◌==◌, ◌^◌, ◌≡◌, ◌∙◌, ◌∷◌}
use Rattle.std.proofs.Math.Nat.{pow-suc}
use Rattle.std.proofs.Math.Facts.{Fits-lt-pow, Fits-of_z}
use Rattle.std.proofs.lemmas.Int.{to_z-of_z}
use Rattle.std.proofs.lemmas.List.{append_cancel_left, drop-append-le, drop-drop, drop_all, get_or-drop, get_or-take, get_or_default, same_lists, take-append-le, take_all}
use Rattle.std.proofs.lemmas.List.Elements.{All-get_or}
use Rattle.std.proofs.lemmas.Nat.Bits.{bit_at-suc, bit_at_lowest}
use Rattle.std.specs.Int.{bit_at, cast_signed, cast_unsigned, w32}
use Rattle.std.specs.List.{flat_map}
use Rattle.std.specs.Prelude.{All}
use Rattle.byteorder.specs.Endian.{little_number}
use Rattle.byteorder.specs.Numbers.{little_number-reads_back}
use Rattle.bw_file.specs.Cells.{IsCell, cell_bytes, column_bytes, column_size, presence, presence_byte, presence_bytes, presence_size}
use Rattle.bw_file.specs.Reading.{read_cell}

pub length-presence_bytes : (n : ℕ) (cells : List (Option ℤ)) → length (presence_bytes n cells) ≡ n
length-presence_bytes zero cells = refl
length-presence_bytes (suc n) cells = ap suc (length-presence_bytes n (drop 8 cells))

pub length-words : (cells : List (Option ℤ)) → length (flat_map cell_bytes cells) ≡ 4 * length cells
length-words [] = refl
length-words (None ∷ cells) = let rest = length-words cells in omega arith
length-words (Some z ∷ cells) = let rest = length-words cells in omega arith

-- the bits of so many cells
pub presence_byte-bound : (cells : List (Option ℤ)) → presence_byte cells < 2 ^ length cells
presence_byte-bound [] = omega arith
presence_byte-bound (None ∷ cells) = let rest = presence_byte-bound cells in rw (pow-suc 2 (length cells)) (omega arith)
presence_byte-bound (Some z ∷ cells) = let rest = presence_byte-bound cells in rw (pow-suc 2 (length cells)) (omega arith)

pub bit-presence_byte : (cells : List (Option ℤ)) (j : ℕ) → j < length cells → bit_at (presence_byte cells) j ≡ presence (get_or cells j None)
bit-presence_byte [] j h = absurd (omega arith)
bit-presence_byte (cell ∷ cells) zero h = bit_at_lowest (presence_byte (cell ∷ cells)) ∙ first cell
  where
    first : (c : Option ℤ) → (presence c + 2 * presence_byte cells) % 2 ≡ presence c
    first None = omega arith
    first (Some z) = omega arith
bit-presence_byte (cell ∷ cells) (suc j) h =
    bit_at-suc (presence_byte (cell ∷ cells)) j ∙ ap (λ n. bit_at n j) (half cell) ∙ bit-presence_byte cells j (omega arith)
  where
    half : (c : Option ℤ) → (presence c + 2 * presence_byte cells) / 2 ≡ presence_byte cells
    half None = omega arith
    half (Some z) = omega arith

pub byte-presence_bytes : (n : ℕ) (cells : List (Option ℤ)) (q : ℕ) → q < n → get_or (presence_bytes n cells) q 0 ≡ presence_byte (take 8 (drop (q * 8) cells))
byte-presence_bytes zero cells q h = absurd (omega arith)
byte-presence_bytes (suc n) cells zero h = refl
byte-presence_bytes (suc n) cells (suc q) h =
    let e : suc q * 8 ≡ 8 + q * 8 = omega arith in
    byte-presence_bytes n (drop 8 cells) q (omega arith) ∙ ap (λ xs. presence_byte (take 8 xs)) (drop-drop (q * 8) 8 cells) ∙ ap (λ k. presence_byte (take 8 (drop k cells))) (sym e)

-- bit i mod 8 of byte i/8 says whether cell i is not null
pub bit-presence : (cells : List (Option ℤ)) (i : ℕ) → i < length cells
    → bit_at (get_or (presence_bytes (presence_size (length cells)) cells) (i / 8) 0) (i % 8) ≡ presence (get_or cells i None)
bit-presence cells i h =
    let q = i / 8 in
    let place : q * 8 + i % 8 ≡ i = omega arith in
    let within : i % 8 < length (take 8 (drop (q * 8) cells)) = omega (arith, length-take 8 (drop (q * 8) cells), length-drop (q * 8) cells) in
    ap (λ b. bit_at b (i % 8)) (byte-presence_bytes (presence_size (length cells)) cells q (omega arith))
    ∙ bit-presence_byte (take 8 (drop (q * 8) cells)) (i % 8) within
    ∙ ap presence (get_or-take 8 (drop (q * 8) cells) (i % 8) None (omega arith) ∙ get_or-drop (q * 8) cells (i % 8) None ∙ ap (λ k. get_or cells k None) place)

pub drop-words : (cells : List (Option ℤ)) (i : ℕ) → drop (4 * i) (flat_map cell_bytes cells) ≡ flat_map cell_bytes (drop i cells)
drop-words [] zero = refl
drop-words [] (suc i) = drop_all (4 * suc i) [] (omega arith)
drop-words (c ∷ cells) zero = refl
drop-words (c ∷ cells) (suc i) =
    let e : 4 * suc i ≡ 4 + 4 * i = omega arith in
    ap (λ k. drop k (cell_bytes c ++ flat_map cell_bytes cells)) e ∙ sym (drop-drop (4 * i) 4 (cell_bytes c ++ flat_map cell_bytes cells)) ∙ four c (drop-words cells i)
  where
    four : (x : Option ℤ) → drop (4 * i) (flat_map cell_bytes cells) ≡ flat_map cell_bytes (drop i cells) → drop (4 * i) (drop 4 (cell_bytes x ++ flat_map cell_bytes cells)) ≡ flat_map cell_bytes (drop i cells)
    four None h = h
    four (Some z) h = h

cell-first : (c : Option ℤ) (rest : List ℕ) → IsCell c → cond (presence c == 1) (Some (cast_signed w32 (little_number 4 (cell_bytes c ++ rest)))) None ≡ c
cell-first None rest h = refl
cell-first (Some z) rest h =
    ap Some (ap (cast_signed w32) (little_number-reads_back 4 (cast_unsigned w32 z) rest (Fits-lt-pow {w = w32} (Fits-of_z {w = w32} {z = z} h))) ∙ to_z-of_z w32 z h)

-- what is read at a row of a column is its cell
pub read_cell-spelled : (cells : List (Option ℤ)) (i : ℕ) → All IsCell cells → i < length cells
    → read_cell (presence_bytes (presence_size (length cells)) cells) (flat_map cell_bytes cells) i ≡ get_or cells i None
read_cell-spelled cells i all h =
    let words = drop-words cells i ∙ ap (flat_map cell_bytes) (drop-cons cells i None h) in
    let bit = bit-presence cells i h in
    rw (bit, words) (cell-first (get_or cells i None) (flat_map cell_bytes (drop (suc i) cells)) (All-get_or IsCell cells i None h all))

-- a column that is read where it is spelled
pub read-spelled : (cells spelled : List (Option ℤ)) (present words : List ℕ) → All IsCell spelled → length cells ≡ length spelled
    → present ≡ presence_bytes (presence_size (length spelled)) spelled → words ≡ flat_map cell_bytes spelled
    → ((i : ℕ) → i < length spelled → get_or cells i None ≡ read_cell present words i) → cells ≡ spelled
read-spelled cells spelled present words all long p w each =
    same_lists cells spelled long (λ k d h.
    let there : k < length spelled = omega arith in
    get_or_default cells k d None h ∙ each k there ∙ rw (p, w) (read_cell-spelled spelled k all there) ∙ get_or_default spelled k None d there)

-- bytes spell one column of so many rows
pub same-column : (a b : List (Option ℤ)) → All IsCell a → All IsCell b → length a ≡ length b → column_bytes a ≡ column_bytes b → a ≡ b
same-column a b all all' long columns =
    let size = presence_size (length b) in
    let whole : presence_bytes size a ++ flat_map cell_bytes a ≡ presence_bytes size b ++ flat_map cell_bytes b = ap (λ n. presence_bytes (presence_size n) a ++ flat_map cell_bytes a) (sym long) ∙ columns in
    let present : presence_bytes size a ≡ presence_bytes size b =
    sym (take-append-le size _ (flat_map cell_bytes a) (omega (arith, length-presence_bytes size a)) ∙ take_all size _ (omega (arith, length-presence_bytes size a)))
    ∙ ap (take size) whole ∙ take-append-le size _ (flat_map cell_bytes b) (omega (arith, length-presence_bytes size b)) ∙ take_all size _ (omega (arith, length-presence_bytes size b)) in
    let words : flat_map cell_bytes a ≡ flat_map cell_bytes b = append_cancel_left (presence_bytes size b) _ _ (ap (λ ps. ps ++ flat_map cell_bytes a) (sym present) ∙ whole) in
    read-spelled a b (presence_bytes size a) (flat_map cell_bytes a) all' long present words (λ i h. sym (ap (λ n. read_cell (presence_bytes (presence_size n) a) (flat_map cell_bytes a) i) (sym long) ∙ read_cell-spelled a i all (omega arith)))

pub length-column_bytes : (cells : List (Option ℤ)) → length (column_bytes cells) ≡ column_size (length cells)
length-column_bytes cells =
    omega (arith, length-presence_bytes (presence_size (length cells)) cells, length-words cells, length-append (presence_bytes (presence_size (length cells)) cells) (flat_map cell_bytes cells))

-- the two parts of a column
pub column_presence : (cells : List (Option ℤ)) (n : ℕ) → n ≡ presence_size (length cells) → take n (column_bytes cells) ≡ presence_bytes (presence_size (length cells)) cells
column_presence cells n e =
    let size = length-presence_bytes (presence_size (length cells)) cells in
    take-append-le n _ (flat_map cell_bytes cells) (omega arith) ∙ take_all n _ (omega arith)

pub column_words : (cells : List (Option ℤ)) (n : ℕ) → n ≡ presence_size (length cells) → drop n (column_bytes cells) ≡ flat_map cell_bytes cells
column_words cells n e =
    let size = length-presence_bytes (presence_size (length cells)) cells in
    let none = drop_all n (presence_bytes (presence_size (length cells)) cells) (omega arith) in
    drop-append-le n _ (flat_map cell_bytes cells) (omega arith) ∙ ap (λ xs. xs ++ flat_map cell_bytes cells) none

-- bits that are those of each eight cells
pub presence-by_bytes : (out : List ℕ) (cells : List (Option ℤ)) (n : ℕ) → length out ≡ n
    → ((q : ℕ) → q < n → get_or out q 0 ≡ presence_byte (take 8 (drop (q * 8) cells))) → out ≡ presence_bytes n cells
presence-by_bytes out cells n long each =
    same_lists out (presence_bytes n cells) (long ∙ sym (length-presence_bytes n cells)) (λ k d h.
    let there : k < n = omega arith in
    let there' : k < length (presence_bytes n cells) = omega (arith, length-presence_bytes n cells) in
    get_or_default out k d 0 h ∙ each k there ∙ sym (byte-presence_bytes n cells k there) ∙ get_or_default (presence_bytes n cells) k 0 d there')
