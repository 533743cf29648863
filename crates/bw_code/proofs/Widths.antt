-- The number of bits of a number is the least that holds it.
use Rattle.std.proofs.Common.{◌≡◌, ℕ, ◌+◌, ◌-◌, ◌*◌, ◌^◌, ◌<◌, ◌≤◌, max, ◌∙◌, arith, inl, inr, pow-add}
use Rattle.std.specs.Int.{leading_zeros, w64}
use Rattle.std.proofs.lemmas.Nat.{leading_length}
use Rattle.std.proofs.lemmas.Bool.{cases_lt}
use Rattle.std.proofs.Math.Nat.{pow-le-pow_right}
use Rattle.bw_code.specs.Encodings.{bits_of}

double : (k : ℕ) → 2 ^ (k + 1) ≡ 2 * 2 ^ k
double k = pow-add 2 k 1 ∙ omega arith

pub record IsWidthOf (n bits : ℕ) : Type 0 where
  pub some : 1 ≤ bits
  pub few : bits ≤ 64
  pub holds : n < 2 ^ bits
  pub least : (k : ℕ) → 1 ≤ k → n < 2 ^ k → bits ≤ k

-- where 2^m is the least power above n
width_is : (n m : ℕ) → m ≤ 64 → n < 2 ^ m → 2 ^ m ≤ 2 * n + 1 → IsWidthOf n (max m 1)
width_is n m few high low = record {
  some = omega arith;
  few = omega arith;
  holds = omega (arith, pow-le-pow_right {n = 2} (omega arith) {i = m} {j = max m 1} (omega arith));
  least = λ k some h.
      elim (cases_lt k m) [
        | inl l ↦ absurd (omega (arith, double k, pow-le-pow_right {n = 2} (omega arith) {i = k + 1} {j = m} (omega arith)))
        | inr l ↦ omega arith
      ];
}

pub bits_of_is : (n : ℕ) → n < 2 ^ 64 → IsWidthOf n (bits_of n)
unfolding bits_of
bits_of_is n h =
    let l = leading_length 64 n h in
    let e : 64 - leading_zeros w64 n ≡ l.0 = omega (arith, l.1) in
    rw e (width_is n l.0 (omega (arith, l.1)) l.2 l.3)
