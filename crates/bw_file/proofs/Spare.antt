-- Bits of rows, and bits past the last row.
use Rattle.std.proofs.Common.{List, None, Option, Some, ap, arith, cond, drop, get_or, inl, inr, length, length-drop, length-take, refl, slice_index, subst, suc, sym, take, zero, ℕ, ℤ, ◌%◌, ◌*◌, ◌+◌, ◌++◌, ◌/◌, ◌<◌, ◌==◌, ◌^◌, ◌≡◌, ◌≤◌, ◌∙◌, ◌⊎◌, ◌≢◌}
use Rattle.std.proofs.Math.ListN.{get_or-eq_default}
use Rattle.std.proofs.Math.Nat.{div-eq_of_lt, lt-div-mul-add, pow-le-pow_right}
use Rattle.std.proofs.lemmas.Bool.{cases_lt}
use Rattle.std.proofs.lemmas.List.{get_or-drop, get_or-take}
use Rattle.std.proofs.lemmas.Nat.{pow_pos}
use Rattle.std.proofs.lemmas.Nat.Bits.{bit_at-lt, bit_at-zero, bit_at_above, same_from_bits_below}
use Rattle.std.specs.Int.{bit_at}
use Rattle.std.specs.List.{flat_map}
use Rattle.bw_file.specs.Cells.{cell_bytes, column_bytes, presence, presence_byte, presence_bytes, presence_size}
use Rattle.bw_file.specs.Reading.{HasNoSpareBit, read_cell}
use Rattle.bw_file.proofs.Places.{bit-presence_byte, byte-presence_bytes, presence-by_bytes, presence_byte-bound}

-- the bit of a row says whether a cell is read there
pub presence-read : (present words : List ℕ) (i : ℕ) → bit_at (slice_index present (i / 8)) (i % 8) ≡ presence (read_cell present words i)
presence-read present words i = by (bit_at (slice_index present (i / 8)) (i % 8)) _ (bit_at-lt (slice_index present (i / 8)) (i % 8))
  where
    by : (b : ℕ) (z : ℤ) → b < 2 → b ≡ presence (cond (b == 1) (Some z) None)
    by zero z h = refl
    by (suc zero) z h = refl
    by (suc (suc b)) z h = absurd (omega arith)

-- bits that are those of the cells, with none to spare
pub presence-by_bits : (present : List ℕ) (cells : List (Option ℤ)) → ((k : ℕ) → slice_index present k < 256) → length present ≡ presence_size (length cells) → HasNoSpareBit (length cells) present
    → ((i : ℕ) → i < length cells → bit_at (slice_index present (i / 8)) (i % 8) ≡ presence (get_or cells i None)) → present ≡ presence_bytes (presence_size (length cells)) cells
presence-by_bits present cells small long spare bits =
    presence-by_bytes present cells (presence_size (length cells)) long (λ q h. same_from_bits_below 8 (get_or present q 0) (presence_byte (eight q)) (small q) (bound q) (λ j below. bit q j below (cases_lt (q * 8 + j) (length cells))))
  where
    eight : ℕ → List (Option ℤ)
    eight q = take 8 (drop (q * 8) cells)

    bound : (q : ℕ) → presence_byte (eight q) < 2 ^ 8
    bound q =
        let one = presence_byte-bound (eight q) in
        let short : length (eight q) ≤ 8 = omega (arith, length-take 8 (drop (q * 8) cells)) in
        let pow : 2 ^ length (eight q) ≤ 2 ^ 8 = pow-le-pow_right {n = 2} (omega arith) {i = length (eight q)} {j = 8} short in
        omega arith

    bit : (q j : ℕ) → j < 8 → (q * 8 + j < length cells) ⊎ (length cells ≤ q * 8 + j) → bit_at (get_or present q 0) j ≡ bit_at (presence_byte (eight q)) j
    bit q j below (inl here) =
        let place : (q * 8 + j) / 8 ≡ q = omega arith in
        let at : (q * 8 + j) % 8 ≡ j = omega arith in
        let within : j < length (eight q) = omega (arith, length-take 8 (drop (q * 8) cells), length-drop (q * 8) cells) in
        sym (ap (λ k. bit_at (slice_index present k) j) place) ∙ sym (ap (λ k. bit_at (slice_index present ((q * 8 + j) / 8)) k) at) ∙ bits (q * 8 + j) here
        ∙ sym (bit-presence_byte (eight q) j within ∙ ap presence (get_or-take 8 (drop (q * 8) cells) j None below ∙ get_or-drop (q * 8) cells j None))
    bit q j below (inr past) =
        let place : (q * 8 + j) / 8 ≡ q = omega arith in
        let at : (q * 8 + j) % 8 ≡ j = omega arith in
        let short : length (eight q) ≤ j = omega (arith, length-take 8 (drop (q * 8) cells), length-drop (q * 8) cells) in
        sym (ap (λ k. bit_at (slice_index present k) j) place) ∙ sym (ap (λ k. bit_at (slice_index present ((q * 8 + j) / 8)) k) at) ∙ spare (q * 8 + j) past
        ∙ sym (bit_at_above (presence_byte (eight q)) (length (eight q)) j (presence_byte-bound (eight q)) short)

-- the byte of the last rows, where it isn't full
pub last_byte : (cells : List (Option ℤ)) → length cells / 8 < presence_size (length cells) → get_or (presence_bytes (presence_size (length cells)) cells) (length cells / 8) 0 < 2 ^ (length cells % 8)
last_byte cells there =
    let q = length cells / 8 in
    let eight = take 8 (drop (q * 8) cells) in
    let long : length eight ≡ length cells % 8 = omega (arith, length-take 8 (drop (q * 8) cells), length-drop (q * 8) cells) in
    rw (byte-presence_bytes (presence_size (length cells)) cells q there, sym long) (presence_byte-bound eight)

-- nothing stands above the last row's bit
pub none_spare : (present : List ℕ) (rows : ℕ) → length present ≡ presence_size rows → slice_index present (rows / 8) / 2 ^ (rows % 8) ≡ 0 → HasNoSpareBit rows present
none_spare present rows long e i h = by (cases_lt (rows / 8) (i / 8))
  where
    by : (rows / 8 < i / 8) ⊎ (i / 8 ≤ rows / 8) → bit_at (slice_index present (i / 8)) (i % 8) ≡ 0
    by (inl later) = ap (λ b. bit_at b (i % 8)) (get_or-eq_default present 0 (omega arith)) ∙ bit_at-zero (i % 8)
    by (inr here) =
        let byte = slice_index present (rows / 8) in
        let unit = 2 ^ (rows % 8) in
        let low : byte < 0 * unit + unit = subst (λ q. byte < q * unit + unit) e (lt-div-mul-add {a = byte} {b = unit} (pow_pos (rows % 8))) in
        let same : i / 8 ≡ rows / 8 = omega arith in
        ap (λ k. bit_at (slice_index present k) (i % 8)) same ∙ bit_at_above byte (rows % 8) (i % 8) (omega arith) (omega arith)

-- of a column's bits none does
pub one_spare : (present : List ℕ) (cells : List (Option ℤ)) (rows : ℕ) → length cells ≡ rows → rows % 8 ≢ 0 → present ≡ presence_bytes (presence_size rows) cells
    → slice_index present (rows / 8) / 2 ^ (rows % 8) ≡ 0
one_spare present cells rows long part same =
    let there : length cells / 8 < presence_size (length cells) = omega (arith, part) in
    subst (λ n. slice_index present (n / 8) / 2 ^ (n % 8) ≡ 0) long (ap (λ xs. get_or xs (length cells / 8) 0 / 2 ^ (length cells % 8)) (same ∙ ap (λ n. presence_bytes (presence_size n) cells) (sym long)) ∙ div-eq_of_lt (last_byte cells there))

-- bits and words of cells that were read there
pub column-by_bits : (present words : List ℕ) (cells : List (Option ℤ)) → ((k : ℕ) → slice_index present k < 256) → length present ≡ presence_size (length cells) → HasNoSpareBit (length cells) present
    → ((i : ℕ) → i < length cells → get_or cells i None ≡ read_cell present words i) → words ≡ flat_map cell_bytes cells → present ++ words ≡ column_bytes cells
column-by_bits present words cells small long spare each same =
    let bits = presence-by_bits present cells small long spare (λ i h. presence-read present words i ∙ ap presence (sym (each i h))) in
    ap (λ xs. xs ++ words) bits ∙ ap (λ ws. presence_bytes (presence_size (length cells)) cells ++ ws) same
