-- Numbers added bit by bit from the lowest on, with what is carried.
use Rattle.std.proofs.Common.{Bool, ap, arith, cond, false, refl, suc, sym, true, ℕ, ◌%◌, ◌&&◌, ◌*◌, ◌+◌, ◌/◌, ◌<◌, ◌==◌, ◌^◌, ◌||◌, ◌∙◌, ◌≡◌, pow_pos}
use Rattle.std.specs.Int.{bit_at}
use Rattle.std.proofs.Math.Nat.{add-mul-div_left, div-div-eq-div-mul, div-eq_of_lt, mod-add-div, mod-lt, mul-add, mul_comm, pow-suc, zero-mod}
use Rattle.std.proofs.lemmas.Nat.{mod-pow-add}
use Rattle.bw_lane.proofs.Bits.{one_of}
use Rattle.bw_mask.specs.Masks.{bit_of}
use Rattle.bw_mask.proofs.Bits.{bit_of_zero}
use Rattle.bw_vertical.specs.Carries.{carried}
use Rattle.bw_vertical.proofs.Numbers.{bit_is, bit_most}

pub power_more : (n : ℕ) → 2 ^ (1 + n) ≡ 2 ^ n + 2 ^ n
power_more n = let e : 1 + n ≡ suc n = omega arith in ap (λ m. 2 ^ m) e ∙ pow-suc 2 n ∙ omega arith

-- one bit more, at the high end
pub low : (n z : ℕ) → z % 2 ^ (n + 1) ≡ z % 2 ^ n + 2 ^ n * bit_at z n
low n z =
    let e : n + 1 ≡ 1 + n = omega arith in
    ap (λ m. z % 2 ^ m) e ∙ mod-pow-add z 1 n ∙ omega (arith, mul_comm (z / 2 ^ n % 2) (2 ^ n))

module _ (x y n : ℕ) where
  -- the sum by its parts
  parts : (x + y) / 2 ^ n ≡ carried x y n + (x / 2 ^ n + y / 2 ^ n)
  parts =
      let whole : x + y ≡ (x % 2 ^ n + y % 2 ^ n) + 2 ^ n * (x / 2 ^ n + y / 2 ^ n) = omega (arith, mod-add-div x (2 ^ n), mod-add-div y (2 ^ n), mul-add (2 ^ n) (x / 2 ^ n) (y / 2 ^ n)) in
      ap (λ z. z / 2 ^ n) whole ∙ add-mul-div_left (x % 2 ^ n + y % 2 ^ n) (x / 2 ^ n + y / 2 ^ n) {y = 2 ^ n} (pow_pos n)

  pub sum_bit : bit_at (x + y) n ≡ (bit_at x n + bit_at y n + carried x y n) % 2
  sum_bit = omega (arith, parts)

  pub carry_more : carried x y (n + 1) ≡ (bit_at x n + bit_at y n + carried x y n) / 2
  carry_more =
      let p = 2 ^ n in
      let e : n + 1 ≡ suc n = omega arith in
      let twice : 2 ^ (n + 1) ≡ p * 2 = ap (λ m. 2 ^ m) e ∙ pow-suc 2 n in
      let sum : x % 2 ^ (n + 1) + y % 2 ^ (n + 1) ≡ (x % p + y % p) + p * (bit_at x n + bit_at y n) = omega (arith, low n x, low n y, mul-add p (bit_at x n) (bit_at y n)) in
      ap (λ z. z / 2 ^ (n + 1)) sum
      ∙ ap (λ z. ((x % p + y % p) + p * (bit_at x n + bit_at y n)) / z) twice
      ∙ sym (div-div-eq-div-mul ((x % p + y % p) + p * (bit_at x n + bit_at y n)) p 2)
      ∙ ap (λ z. z / 2) (add-mul-div_left (x % p + y % p) (bit_at x n + bit_at y n) {y = p} (pow_pos n))
      ∙ omega arith

-- with nothing added nothing is carried
pub nothing_carried : (x n : ℕ) → carried x 0 n ≡ 0
nothing_carried x n =
    let low : x % 2 ^ n < 2 ^ n = mod-lt x (pow_pos n) in
    let none : 0 % 2 ^ n ≡ 0 = zero-mod (2 ^ n) in
    ap (λ z. (x % 2 ^ n + z) / 2 ^ n) none ∙ div-eq_of_lt (omega (arith, low))

-- three digits added
pub three_digits : (a b c : Bool) → cond {A = ℕ} (one_of (one_of a b) c) 1 0 + 2 * cond ((a && b) || (one_of a b && c)) 1 0 ≡ cond a 1 0 + cond b 1 0 + cond c 1 0
three_digits true true true = refl
three_digits true true false = refl
three_digits true false true = refl
three_digits true false false = refl
three_digits false true true = refl
three_digits false true false = refl
three_digits false false true = refl
three_digits false false false = refl

-- a bit of a number that is added in some rows
pub added_bit : (there : Bool) (by n : ℕ) → (there && bit_of by n) ≡ bit_of (cond there by 0) n
added_bit true by n = refl
added_bit false by n = sym (bit_of_zero n)

-- bit n of a sum and what is carried out of it, by the digits of both numbers
module _ (x y n : ℕ) (a b c sum next : Bool)
    (digits : cond {A = ℕ} sum 1 0 + 2 * cond next 1 0 ≡ cond a 1 0 + cond b 1 0 + cond c 1 0)
    (a_is : a ≡ bit_of x n) (b_is : b ≡ bit_of y n) (c_is : cond c 1 0 ≡ carried x y n) where
  bits : cond {A = ℕ} sum 1 0 + 2 * cond next 1 0 ≡ bit_at x n + bit_at y n + carried x y n
  bits = omega (arith, digits, ap (λ (z : Bool). cond {A = ℕ} z 1 0) a_is ∙ bit_is x n, ap (λ (z : Bool). cond {A = ℕ} z 1 0) b_is ∙ bit_is y n, c_is)

  pub sum_is : sum ≡ bit_of (x + y) n
  sum_is =
      let digit : cond {A = ℕ} sum 1 0 ≡ bit_at (x + y) n = omega (arith, bits, sum_bit x y n, bit_most sum) in
      sym (one sum) ∙ ap (λ z. z == 1) digit
    where
      one : (z : Bool) → (cond {A = ℕ} z 1 0 == 1) ≡ z
      one true = refl
      one false = refl

  pub next_is : cond next 1 0 ≡ carried x y (n + 1)
  next_is = omega (arith, bits, carry_more x y n, bit_most sum)
