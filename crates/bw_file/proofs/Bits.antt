-- The bytes of words, and bytes whose bits say which cells are not null.
use Rattle.std.proofs.Common.{List, None, Option, Some, ap, arith, drop, get_or, is_some, length, refl, suc, sym, take, zero, ℕ, ℤ, ◌%◌, ◌*◌, ◌+◌, ◌/◌, ◌<◌, ◌==◌, ◌^◌, ◌≡◌, ◌∙◌, ◌∷◌, []}
use Rattle.std.proofs.Math.Nat.{pow-suc}
use Rattle.std.proofs.lemmas.Nat.{pow-add, shr-shr, shr_split}
use Rattle.std.proofs.lemmas.Nat.Bits.{bit_at-lt, bit_at_cat_low}
use Rattle.std.specs.Int.{bit_at, byte_at, bytes_low_first}
use Rattle.byteorder.specs.Endian.{little_bytes}
use Rattle.bw_mask.specs.Masks.{bit_of}
use Rattle.bw_file.specs.Cells.{presence, presence_byte, presence_bytes}
use Rattle.bw_file.specs.Planes.{bit_byte, bit_bytes}
use Rattle.bw_file.proofs.Bytes.{bytes-by_bits}

bytes_pow : (q : ℕ) → 256 ^ q ≡ 2 ^ (q * 8)
bytes_pow zero = refl
bytes_pow (suc q) =
    let e : suc q * 8 ≡ 8 + q * 8 = omega arith in
    omega (arith, pow-suc 256 q, bytes_pow q, pow-add 2 8 (q * 8), ap (λ k. 2 ^ k) e)

byte_is : (q word : ℕ) → byte_at q word ≡ word / 2 ^ (q * 8) % 2 ^ 8
byte_is zero word = omega arith
byte_is (suc q) word = ap (λ p. word / p % 256) (bytes_pow (suc q))

-- a bit of a byte of a word
pub bit-byte_at : (word q j : ℕ) → j < 8 → bit_at (byte_at q word) j ≡ bit_at word (q * 8 + j)
bit-byte_at word q j h =
    let high = word / 2 ^ (q * 8) in
    ap (λ b. bit_at b j) (byte_is q word) ∙ sym (bit_at_cat_low (high / 2 ^ 8) 8 (high % 2 ^ 8) j h) ∙ ap (λ b. bit_at b j) (shr_split high 8) ∙ ap (λ b. b % 2) (shr-shr word (q * 8) j)

-- the bytes of a word, by their places
get_or-low_first : (i n q word : ℕ) → q < n → get_or (bytes_low_first i n word) q 0 ≡ byte_at (i + q) word
get_or-low_first i zero q word h = absurd (omega arith)
get_or-low_first i (suc n) zero word h = let e : i ≡ i + 0 = omega arith in ap (λ k. byte_at k word) e
get_or-low_first i (suc n) (suc q) word h =
    let e : suc i + q ≡ i + suc q = omega arith in
    get_or-low_first (suc i) n q word (omega arith) ∙ ap (λ k. byte_at k word) e

pub byte_of : (n q word : ℕ) → q < n → get_or (little_bytes n word) q 0 ≡ byte_at q word
byte_of n q word h = let e : 0 + q ≡ q = omega arith in get_or-low_first 0 n q word h ∙ ap (λ k. byte_at k word) e

few : (c : Option ℤ) → presence c < 2
few None = omega arith
few (Some z) = omega arith

presence_is : (b : ℕ) (c : Option ℤ) → b < 2 → (b == 1) ≡ is_some c → b ≡ presence c
presence_is zero None h e = refl
presence_is zero (Some z) h e = absurd cc
presence_is (suc zero) None h e = absurd cc
presence_is (suc zero) (Some z) h e = refl
presence_is (suc (suc b)) c h e = absurd (omega arith)

-- the bits of cells are those of any bit of them, here whether they are not null
byte_of_cells : (cells : List (Option ℤ)) → bit_byte presence cells ≡ presence_byte cells
byte_of_cells [] = refl
byte_of_cells (c ∷ cells) = ap (λ n. presence c + 2 * n) (byte_of_cells cells)

bytes_of_cells : (n : ℕ) (cells : List (Option ℤ)) → bit_bytes presence n cells ≡ presence_bytes n cells
bytes_of_cells zero cells = refl
bytes_of_cells (suc n) cells =
    ap (λ b. b ∷ bit_bytes presence n (drop 8 cells)) (byte_of_cells (take 8 cells)) ∙ ap (λ bs. presence_byte (take 8 cells) ∷ bs) (bytes_of_cells n (drop 8 cells))

-- bytes of which each bit says whether a cell is not null
pub presence-by_known : (n : ℕ) (bytes : List ℕ) (cells : List (Option ℤ)) → length bytes ≡ n → ((q : ℕ) → get_or bytes q 0 < 256)
    → ((i : ℕ) → i / 8 < n → bit_of (get_or bytes (i / 8) 0) (i % 8) ≡ is_some (get_or cells i None)) → bytes ≡ presence_bytes n cells
presence-by_known n bytes cells long small each =
    bytes-by_bits presence few refl n bytes cells long (λ q h. small q) (λ i h.
    presence_is (bit_at (get_or bytes (i / 8) 0) (i % 8)) (get_or cells i None) (bit_at-lt (get_or bytes (i / 8) 0) (i % 8)) (each i h))
    ∙ bytes_of_cells n cells
