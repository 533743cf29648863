-- Units that hold the bytes of codes.
use Rattle.std.proofs.Common.{List, [], ap, arith, get_or, pow_pos, refl, subst, sym, ℕ, ◌%◌, ◌*◌, ◌+◌, ◌/◌, ◌<◌, ◌^◌, ◌≡◌, ◌≤◌, ◌∙◌}
use Rattle.std.proofs.Math.Nat.{div-add-mod, mod-lt, mul-div_cancel, mul-mod_left}
use Rattle.bw_code.specs.Units.{digit}
use Rattle.bw_byteslice.specs.Slices.{AreBytes, AreStored, byte_in, code_in, number_in, shift_of, slices_of}
use Rattle.bw_byteslice.proofs.Numbers.{number_of_digits, number_same}
use Rattle.bw_byteslice.proofs.Raised.{raised_fits}

number_here : (k : ℕ) (code : ℕ → ℕ) (units : List (List ℕ)) → ((j : ℕ) → code j < 2 ^ k)
    → ((j i : ℕ) → i < slices_of k → byte_in (slices_of k) units j i ≡ digit 256 (slices_of k) (code j * 2 ^ shift_of k) i)
    → (j : ℕ) → number_in (slices_of k) units j ≡ code j * 2 ^ shift_of k
number_here k code units fits bytes j =
    let x = code j * 2 ^ shift_of k in
    number_same (slices_of k) (byte_in (slices_of k) units j) (λ i. digit 256 (slices_of k) x i) (λ i h. bytes j i h) ∙ number_of_digits (slices_of k) x (raised_fits k (code j) (fits j))

pub code_here : (k : ℕ) (code : ℕ → ℕ) (units : List (List ℕ)) → ((j : ℕ) → code j < 2 ^ k)
    → ((j i : ℕ) → i < slices_of k → byte_in (slices_of k) units j i ≡ digit 256 (slices_of k) (code j * 2 ^ shift_of k) i)
    → (j : ℕ) → code_in k units j ≡ code j
code_here k code units fits bytes j = ap (λ x. x / 2 ^ shift_of k) (number_here k code units fits bytes j) ∙ mul-div_cancel (code j) (pow_pos (shift_of k))

-- each unit is one of a segment
module _ (k : ℕ) (code : ℕ → ℕ) (units : List (List ℕ)) (some : 1 ≤ k) (bytes : (j i : ℕ) → i < slices_of k → byte_in (slices_of k) units j i ≡ digit 256 (slices_of k) (code j * 2 ^ shift_of k) i) where
  byte_small : AreBytes units
  byte_small u r h =
      let m = slices_of k in
      let pos : 0 < m = omega (arith, some) in
      let q = u / m in
      let i = u % m in
      let low : i < m = mod-lt u pos in
      let row : (32 * q + r) / 32 ≡ q = omega (arith, h) in
      let place : (32 * q + r) % 32 ≡ r = omega (arith, h) in
      let unit : q * m + i ≡ u = omega (arith, div-add-mod u m) in
      let here = bytes (32 * q + r) i low in
      let same : byte_in m units (32 * q + r) i ≡ get_or (get_or units u []) r 0 = rw (row, place, unit) refl in
      subst (λ b. b < 256) same (subst (λ b. b < 256) (sym here) (mod-lt _ (omega arith)))

pub stored_here : (k : ℕ) (code : ℕ → ℕ) (units : List (List ℕ)) → 1 ≤ k → ((j : ℕ) → code j < 2 ^ k)
    → ((j i : ℕ) → i < slices_of k → byte_in (slices_of k) units j i ≡ digit 256 (slices_of k) (code j * 2 ^ shift_of k) i) → AreStored k units
stored_here k code units some fits bytes = record {
  bytes = byte_small k code units some bytes;
  spare = λ j. ap (λ x. x % 2 ^ shift_of k) (number_here k code units fits bytes j) ∙ mul-mod_left (code j) (2 ^ shift_of k);
}
