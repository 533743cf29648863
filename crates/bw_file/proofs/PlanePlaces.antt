-- Where the bits of planes lie, and the cells that they say.
use Rattle.std.proofs.Common.{List, None, Option, Some, ap, arith, get_or, length, length-append, pos, refl, suc, sym, zero, ℕ, ℤ, ◌%◌, ◌*◌, ◌+ℤ◌, ◌+◌, ◌-◌, ◌/◌, ◌<◌, ◌==◌, ◌^◌, ◌≡◌, ◌≤ℤ◌, ◌∙◌}
use Rattle.std.specs.Prelude.{if◌then◌else◌}
use Rattle.std.specs.Int.{bit_at}
use Rattle.std.proofs.lemmas.Int.{ints}
use Rattle.std.proofs.lemmas.List.{get_or-append-add, get_or_append_left}
use Rattle.std.proofs.lemmas.Nat.Bits.{bit_at-lt}
use Rattle.bw_code.specs.Encodings.{distance}
use Rattle.bw_file.specs.Cells.{presence, presence_bytes, presence_size}
use Rattle.bw_file.proofs.Places.{bit-presence}
use Rattle.bw_vertical.proofs.Numbers.{number_is}
use Rattle.bw_file.specs.Planes.{bit_bytes, bit_in, code_in, plane_bit, plane_bytes, read_cell}
use Rattle.bw_file.proofs.Bytes.{bit-bytes, length-bytes}

pub few_in : (base : ℤ) (b : ℕ) (c : Option ℤ) → bit_in base b c < 2
few_in base b None = omega arith
few_in base b (Some z) = bit_at-lt (distance z base) b

pub length-planes : (base : ℤ) (k size : ℕ) (cells : List (Option ℤ)) → length (plane_bytes base k size cells) ≡ k * size
length-planes base zero size cells = omega arith
length-planes base (suc b) size cells =
    omega (arith, length-append (bit_bytes (bit_in base b) size cells) (plane_bytes base b size cells), length-bytes (bit_in base b) (few_in base b) size cells, length-planes base b size cells)

-- byte q of plane p
pub byte-planes : (base : ℤ) (k size : ℕ) (cells : List (Option ℤ)) (p q : ℕ) → p < k → q < size
    → get_or (plane_bytes base k size cells) (p * size + q) 0 ≡ get_or (bit_bytes (bit_in base (k - 1 - p)) size cells) q 0
byte-planes base zero size cells p q h l = absurd (omega (arith, h))
byte-planes base (suc b) size cells zero q h l =
    let place : 0 * size + q ≡ q = omega arith in
    let bit : suc b - 1 - 0 ≡ b = omega arith in
    let there : q < length (bit_bytes (bit_in base b) size cells) = omega (arith, l, length-bytes (bit_in base b) (few_in base b) size cells) in
    ap (λ i. get_or (plane_bytes base (suc b) size cells) i 0) place ∙ get_or_append_left (bit_bytes (bit_in base b) size cells) (plane_bytes base b size cells) 0 q there
    ∙ ap (λ n. get_or (bit_bytes (bit_in base n) size cells) q 0) (sym bit)
byte-planes base (suc b) size cells (suc p) q h l =
    let first = bit_bytes (bit_in base b) size cells in
    let place : suc p * size + q ≡ length (bit_bytes (bit_in base b) size cells) + (p * size + q) = omega (arith, length-bytes (bit_in base b) (few_in base b) size cells) in
    let bit : b - 1 - p ≡ suc b - 1 - suc p = omega (arith, h) in
    ap (λ i. get_or (plane_bytes base (suc b) size cells) i 0) place ∙ get_or-append-add (bit_bytes (bit_in base b) size cells) (plane_bytes base b size cells) (p * size + q) 0
    ∙ byte-planes base b size cells p q (omega (arith, h)) l ∙ ap (λ n. get_or (bit_bytes (bit_in base n) size cells) q 0) bit

-- bit i of plane p
pub bit-planes : (base : ℤ) (k size : ℕ) (cells : List (Option ℤ)) (p i : ℕ) → p < k → i / 8 < size → plane_bit size (plane_bytes base k size cells) p i ≡ bit_in base (k - 1 - p) (get_or cells i None)
bit-planes base k size cells p i h l =
    ap (λ b. bit_at b (i % 8)) (byte-planes base k size cells p (i / 8) h l) ∙ bit-bytes (bit_in base (k - 1 - p)) (few_in base (k - 1 - p)) refl size cells i l

-- the code of a row of which the planes are those of a value
code_back : (base z : ℤ) (k size i : ℕ) (planes : List ℕ) → distance z base < 2 ^ k → ((p : ℕ) → p < k → plane_bit size planes p i ≡ bit_at (distance z base) (k - 1 - p)) → code_in k size planes i ≡ distance z base
code_back base z k size i planes small each =
    number_is (λ p. plane_bit size planes p i == 1) k (distance z base) small (λ p h. ap (λ b. b == 1) (each p h))

-- what is read at a row of planes is the cell that they spell
pub read-spelled : (base : ℤ) (k i : ℕ) (cells : List (Option ℤ)) → i < length cells → ((z : ℤ) → get_or cells i None ≡ Some z → (base ≤ℤ z) × (distance z base < 2 ^ k))
    → read_cell base k (presence_size (length cells)) (presence_bytes (presence_size (length cells)) cells) (plane_bytes base k (presence_size (length cells)) cells) i ≡ get_or cells i None
read-spelled base k i cells h place =
    let size = presence_size (length cells) in
    let planes = plane_bytes base k (presence_size (length cells)) cells in
    ap (λ b. if b == 1 then Some (base +ℤ pos (code_in k (presence_size (length cells)) (plane_bytes base k (presence_size (length cells)) cells) i)) else None) (bit-presence cells i h)
    ∙ by (get_or cells i None) refl
  where
    by : (c : Option ℤ) → get_or cells i None ≡ c
        → (if presence (get_or cells i None) == 1 then Some (base +ℤ pos (code_in k (presence_size (length cells)) (plane_bytes base k (presence_size (length cells)) cells) i)) else None) ≡ get_or cells i None
    by None is = rw is refl
    by (Some z) is =
        let at = place z is in
        let here : i / 8 < presence_size (length cells) = omega (arith, h) in
        let code : code_in k (presence_size (length cells)) (plane_bytes base k (presence_size (length cells)) cells) i ≡ distance z base =
        code_back base z k (presence_size (length cells)) i (plane_bytes base k (presence_size (length cells)) cells) at.1 (λ p l. bit-planes base k (presence_size (length cells)) cells p i l here ∙ ap (bit_in base (k - 1 - p)) is) in
        let back : base +ℤ pos (distance z base) ≡ z = omega (arith, ints, at.0) in
        ap (λ c. if presence c == 1 then Some (base +ℤ pos (code_in k (presence_size (length cells)) (plane_bytes base k (presence_size (length cells)) cells) i)) else None) is
        ∙ ap (λ n. Some (base +ℤ pos n)) code ∙ ap Some back ∙ sym is
