-- Bytes of slices as rows of the planes of a block.
use Rattle.std.proofs.Common.{List, [], ap, arith, eqb, false, get_or, inl, inr, length, refl, subst, sym, ℕ, ◌%◌, ◌*◌, ◌+◌, ◌++◌, ◌-◌, ◌/◌, ◌<◌, ◌^◌, ◌≡◌, ◌≤◌, ◌∙◌}
use Rattle.std.specs.Int.{bit_at}
use Rattle.std.proofs.Math.Nat.{mod-lt}
use Rattle.std.proofs.lemmas.Bool.{cases_lt}
use Rattle.std.proofs.lemmas.Bool.Decides.{nat_tests}
use Rattle.std.proofs.lemmas.List.{get_or_past}
use Rattle.std.proofs.lemmas.Nat.{shr-shr}
use Rattle.std.proofs.lemmas.Nat.Bits.{bit_at-lt, bit_at-zero, bit_at_cat_low, same_from_bits_below}
use Rattle.bw_mask.specs.Masks.{bit_of, row_in}
use Rattle.bw_code.specs.Columns.{Fit}
use Rattle.bw_code.specs.Lists.{made}
use Rattle.bw_code.specs.Units.{digit, segments_of}
use Rattle.bw_code.proofs.Lists.{made_at, made_len}
use Rattle.bw_vertical.specs.Planes.{code_by_planes}
use Rattle.bw_vertical.proofs.BlockRows.{code_by_planes_bit, code_by_planes_lt}
use Rattle.bw_byteslice.specs.Slices.{shift_of, slices_of}
use Rattle.bw_byteslice.specs.Storing.{AreSlices, byte_of, code_of}
use Rattle.bw_byteslice.proofs.Keeping.{byte_is_digit, code_inside, code_outside, code_past, codes_more, slices_put}
use Rattle.bw_byteslice.proofs.Planes.{bit_of_byte, digit_of_none}
use Rattle.bw_byteslice.proofs.Raised.{pow_bytes}

-- a byte of row r: bit t is the row's bit of plane low + t - spare of a block, and not set where there is no such plane
pub record IsOfPlanes (block : List (List ℕ)) (low spare r byte : ℕ) : Type 0 where
  pub small : byte < 256
  pub planes : (t : ℕ) → t < 8 → spare ≤ low + t → bit_of byte t ≡ row_in (get_or block (low + t - spare) []) r
  pub below : (t : ℕ) → low + t < spare → bit_of byte t ≡ false

-- no bit is set below those of a code shifted up by s
spare_bit : (m x s i t : ℕ) → t < 8 → 8 * (m - 1 - i) + t < s → bit_of (digit 256 m (x * 2 ^ s) i) t ≡ false
spare_bit m x s i t h low =
    let e = m - 1 - i in
    let y = x * 2 ^ s in
    let z = y / 2 ^ (8 * e) in
    let high : digit 256 m y i ≡ z % 2 ^ 8 = ap (λ d. y / d % 256) (pow_bytes e) in
    let whole : z ≡ z / 2 ^ 8 * 2 ^ 8 + z % 2 ^ 8 = omega arith in
    let here : bit_at (z % 2 ^ 8) t ≡ bit_at z t = sym (ap (λ n. bit_at n t) whole ∙ bit_at_cat_low (z / 2 ^ 8) 8 (z % 2 ^ 8) t h) in
    let moved : bit_at z t ≡ bit_at y (8 * e + t) = ap (λ n. n % 2) (shr-shr y (8 * e) t) in
    let zeros : y ≡ x * 2 ^ s + 0 = omega arith in
    let none : bit_at y (8 * e + t) ≡ 0 = ap (λ n. bit_at n (8 * e + t)) zeros ∙ bit_at_cat_low x s 0 (8 * e + t) low ∙ bit_at-zero (8 * e + t) in
    ap (λ n. bit_of n t) high ∙ ap (λ n. eqb n 1) (here ∙ moved ∙ none)

module _ (k i r byte : ℕ) (block : List (List ℕ)) (within : i < slices_of k) (is : IsOfPlanes block (8 * (slices_of k - 1 - i)) (shift_of k) r byte) where
  -- each bit of such a byte of slice i is that of the row's code, shifted up
  bit_of_planes : (t : ℕ) → t < 8 → bit_of byte t ≡ bit_of (digit 256 (slices_of k) (code_by_planes k block r * 2 ^ shift_of k) i) t
  bit_of_planes t l =
      let m = slices_of k in
      let s = shift_of k in
      let x = code_by_planes k block r in
      let low = 8 * (m - 1 - i) in
      elim (cases_lt (low + t) s) [
        | inl p ↦ is.below t p ∙ sym (spare_bit m x s i t l p)
        | inr p ↦
            let b = low + t - s in
            let inside : b < k = omega (arith, within, l, p) in
            let fits : b + s < 8 * m = omega (arith, within, l, p) in
            let slice : m - 1 - (b + s) / 8 ≡ i = omega (arith, within, l, p) in
            let place : (b + s) % 8 ≡ t = omega (arith, within, l, p) in
            is.planes t l p
            ∙ sym (code_by_planes_bit k block r b inside)
            ∙ sym (bit_of_byte m x s b s m refl refl fits)
            ∙ ap (λ e. bit_of (digit 256 m (x * 2 ^ s) e) ((b + s) % 8)) slice
            ∙ ap (bit_of (digit 256 m (x * 2 ^ s) i)) place
      ]

  -- so it is the byte of the code
  pub digit_of_planes : byte ≡ digit 256 (slices_of k) (code_by_planes k block r * 2 ^ shift_of k) i
  digit_of_planes =
      let there = digit 256 (slices_of k) (code_by_planes k block r * 2 ^ shift_of k) i in
      same_from_bits_below 8 byte there is.small (mod-lt _ (omega arith)) (λ t l.
      let here = bit_of_planes t l in
      grind (arith, nat_tests, here, bit_at-lt byte t, bit_at-lt there t))

  -- and 0 where the row is in no plane
  pub none_of_planes : ((b : ℕ) → b < k → row_in (get_or block b []) r ≡ false) → byte ≡ 0
  none_of_planes none =
      same_from_bits_below 8 byte 0 is.small (omega arith) (λ t l.
      let low = 8 * (slices_of k - 1 - i) in
      let here : bit_of byte t ≡ false =
      elim (cases_lt (low + t) (shift_of k)) [
        | inl p ↦ is.below t p
        | inr p ↦ is.planes t l p ∙ none (low + t - shift_of k) (omega (arith, within, l, p))
      ] in
      grind (arith, nat_tests, here, bit_at-lt byte t, bit_at-zero t))

module _ (k n : ℕ) (slices : List (List ℕ)) (stored : AreSlices k n slices) where
  -- bit b of a row's code, off the slice that has it
  pub bit_in_slice : (b j : ℕ) → b < k → bit_of (byte_of slices j (slices_of k - 1 - (b + shift_of k) / 8)) ((b + shift_of k) % 8) ≡ bit_of (code_of k slices j) b
  bit_in_slice b j h =
      let m = slices_of k in
      let s = shift_of k in
      let low : m - 1 - (b + s) / 8 < m = omega (arith, h) in
      ap (λ x. bit_of x ((b + s) % 8)) (byte_is_digit k n slices stored (m - 1 - (b + s) / 8) j low)
      ∙ bit_of_byte m (code_of k slices j) s b s m refl refl (omega (arith, h))

  -- after the last row each byte is 0
  pub byte_past : (i j : ℕ) → n ≤ j → byte_of slices j i ≡ 0
  byte_past i j h =
      elim (cases_lt i (slices_of k)) [
        | inl low ↦ byte_is_digit k n slices stored i j low ∙ digit_of_none (slices_of k) (code_of k slices j) (shift_of k) i (code_past k n slices stored j h)
        | inr high ↦ ap (λ xs. get_or xs j 0) (get_or_past slices i [] (omega (arith, high, stored.count)))
      ]

-- the codes of the first rows of a block are written after the others
module _
    (k n more : ℕ) (block before after : List (List ℕ)) (stored : AreSlices k n before)
    (put : (i r : ℕ) → i < slices_of k → r < more → byte_of after (n + r) i ≡ digit 256 (slices_of k) (code_by_planes k block r * 2 ^ shift_of k) i)
    (kept : (i j : ℕ) → (n ≤ j → n + more ≤ j) → byte_of after j i ≡ byte_of before j i)
  where
    abbrev codes : List ℕ
    codes = made more (code_by_planes k block)

    long : length codes ≡ more
    long = made_len more (code_by_planes k block)

    fit : Fit k codes
    fit r d h = subst (λ x. x < 2 ^ k) (sym (made_at more (code_by_planes k block) r d (omega (arith, h, long)))) (code_by_planes_lt k block r)

    inside : (i r : ℕ) → i < slices_of k → r < length codes → byte_of after (n + r) i ≡ digit 256 (slices_of k) (get_or codes r 0 * 2 ^ shift_of k) i
    inside i r low h =
        let there : r < more = omega (arith, h, long) in
        put i r low there ∙ ap (λ x. digit 256 (slices_of k) (x * 2 ^ shift_of k) i) (sym (made_at more (code_by_planes k block) r 0 there))

    outside : (i j : ℕ) → (n ≤ j → n + length codes ≤ j) → byte_of after j i ≡ byte_of before j i
    outside i j apart = kept i j (λ up. let past = apart up in omega (arith, past, long))

    pub slices_extended : n + more ≤ 2 ^ 24 → length after ≡ length before → ((i : ℕ) → i < slices_of k → length (get_or after i []) ≡ 32 * segments_of 32 (n + more)) → AreSlices k (n + more) after
    slices_extended few count all = slices_put k n codes before after fit inside outside n (n + more) stored (omega arith) few (omega (arith, long)) count all

    pub codes_extended : made (n + more) (code_of k after) ≡ made n (code_of k before) ++ codes
    codes_extended =
        subst (λ m. made (n + m) (code_of k after) ≡ made n (code_of k before) ++ codes) long
        (codes_more k n codes before after (code_inside k n codes before after fit inside outside) (λ j h. code_outside k n codes before after fit inside outside j (λ up. absurd (omega (arith, up, h)))))
