-- Numbers of m bytes added byte by byte, from the last byte up.
use Rattle.std.proofs.Common.{Bool, add-one, ap, arith, bit_and, false, if◌then◌else◌, refl, suc, sym, true, zero, ℕ, ◌%◌, ◌*◌, ◌+◌, ◌-◌, ◌/◌, ◌<◌, ◌^◌, ◌≡◌, ◌≤◌, ◌∙◌}
use Rattle.std.proofs.Math.Nat.{add-mod-mod, pow-suc, pow-zero, zero-div}
use Rattle.std.proofs.lemmas.Nat.{and_mask, mod-mul-add, mod-pow-add}
use lib.Bits.{and_zero_r}
use Rattle.bw_code.specs.Units.{digit}
use Rattle.bw_byteslice.specs.Slices.{number_of}
use Rattle.bw_byteslice.proofs.Numbers.{number_fits, number_more, number_none}
use Rattle.bw_byteslice.proofs.Raised.{pow_bytes}

-- the number that the last n of m bytes make
unfoldable pub low_of : ℕ → ℕ → (ℕ → ℕ) → ℕ
low_of m zero byte = 0
low_of m (suc n) byte = byte (m - 1 - n) * 256 ^ n + low_of m n byte

pub low_none : (m : ℕ) (byte : ℕ → ℕ) → low_of m 0 byte ≡ 0
unfolding low_of
low_none m byte = refl

pub low_more : (m n : ℕ) (byte : ℕ → ℕ) → low_of m (n + 1) byte ≡ byte (m - 1 - n) * 256 ^ n + low_of m n byte
unfolding low_of
low_more m n byte = rw add-one refl

pub low_same : (m n : ℕ) (f g : ℕ → ℕ) → n ≤ m → ((i : ℕ) → m - n ≤ i → i < m → f i ≡ g i) → low_of m n f ≡ low_of m n g
unfolding low_of
low_same m zero f g h same = refl
low_same m (suc n) f g h same = rw (low_same m n f g (omega (arith, h)) (λ i up low. same i (omega (arith, up)) low), same (m - 1 - n) (omega (arith, h)) (omega (arith, h))) refl

-- the first bytes and the last ones make the whole number
low_rest : (m n : ℕ) (byte : ℕ → ℕ) → n ≤ m → number_of (m - n) byte * 256 ^ n + low_of m n byte ≡ number_of m byte
low_rest m zero byte h =
    let all : m - 0 ≡ m = omega arith in
    omega (arith, ap (λ k. number_of k byte) all, pow-zero 256, low_none m byte)
low_rest m (suc n) byte h =
    let i = m - 1 - n in
    let more : m - n ≡ i + 1 = omega (arith, h) in
    let less : m - suc n ≡ i = omega (arith, h) in
    let count : suc n ≡ n + 1 = omega arith in
    let front : number_of (m - n) byte ≡ number_of i byte * 256 + byte i = ap (λ k. number_of k byte) more ∙ number_more i byte in
    let rest : number_of i byte * (256 ^ n * 256) + (byte i * 256 ^ n + low_of m n byte) ≡ number_of m byte = omega (arith, low_rest m n byte (omega (arith, h)), ap (λ x. x * 256 ^ n) front) in
    rw (less, pow-suc 256 n, ap (λ k. low_of m k byte) count, low_more m n byte) rest

pub low_all : (m : ℕ) (byte : ℕ → ℕ) → low_of m m byte ≡ number_of m byte
low_all m byte =
    let none : m - m ≡ 0 = omega arith in
    let front : number_of (m - m) byte * 256 ^ m ≡ 0 = ap (λ x. x * 256 ^ m) (ap (λ k. number_of k byte) none ∙ number_none byte) ∙ omega arith in
    omega (arith, low_rest m m byte (omega arith), front)

-- what one byte more leaves of a number
mod_more : (y n : ℕ) → y % 256 ^ (n + 1) ≡ y / 256 ^ n % 256 * 256 ^ n + y % 256 ^ n
mod_more y n =
    let more : 8 * (n + 1) ≡ 8 + 8 * n = omega arith in
    ap (λ p. y % p) (pow_bytes (n + 1) ∙ ap (λ e. 2 ^ e) more) ∙ mod-pow-add y 8 (8 * n) ∙ ap (λ p. y / p % 256 * p + y % p) (sym (pow_bytes n))

-- before the last byte there is no carry
pub carry_none : (m y carry : ℕ) (old new : ℕ → ℕ) → carry ≡ 0 → low_of m 0 new + carry * 256 ^ 0 ≡ low_of m 0 old + y % 256 ^ 0
carry_none m y carry old new none = rw (pow-zero 256) (omega (arith, none, low_none m old, low_none m new))

-- byte m - 1 - n of the sum, and the carry to the byte above
pub carry_more : (m n y carry next added : ℕ) (old now new : ℕ → ℕ) → n < m
    → added ≡ digit 256 m y (m - 1 - n)
    → new (m - 1 - n) ≡ (old (m - 1 - n) + added + carry) % 256
    → next ≡ (old (m - 1 - n) + added + carry) / 256
    → ((i : ℕ) → m - n ≤ i → i < m → new i ≡ now i)
    → low_of m n now + carry * 256 ^ n ≡ low_of m n old + y % 256 ^ n
    → low_of m (n + 1) new + next * 256 ^ (n + 1) ≡ low_of m (n + 1) old + y % 256 ^ (n + 1)
carry_more m n y carry next added old now new h added_is here above same before =
    let i = m - 1 - n in
    let place : m - 1 - i ≡ n = omega (arith, h) in
    let digit_is : added ≡ y / 256 ^ n % 256 = added_is ∙ ap (λ e. y / 256 ^ e % 256) place in
    let total : new i + next * 256 ≡ old i + added + carry = omega (arith, here, above) in
    let more : n + 1 ≡ suc n = omega arith in
    let high : next * 256 ^ (n + 1) ≡ next * (256 ^ n * 256) = ap (λ p. next * p) (ap (λ e. 256 ^ e) more ∙ pow-suc 256 n) in
    let lows : low_of m n new ≡ low_of m n now = low_same m n new now (omega (arith, h)) same in
    omega (arith, low_more m n new, low_more m n old, high, mod_more y n, before, lows, ap (λ x. x * 256 ^ n) total, ap (λ x. x * 256 ^ n) digit_is)

-- the number of all bytes, where the last carry is lost
pub carry_all : (m y carry : ℕ) (old new : ℕ → ℕ) → ((i : ℕ) → new i < 256) → low_of m m new + carry * 256 ^ m ≡ low_of m m old + y % 256 ^ m → number_of m new ≡ (number_of m old + y) % 256 ^ m
carry_all m y carry old new fits sum =
    let whole : carry * 256 ^ m + number_of m new ≡ number_of m old + y % 256 ^ m = omega (arith, sum, low_all m new, low_all m old) in
    sym (mod-mul-add carry (256 ^ m) (number_of m new) (number_fits new fits m)) ∙ ap (λ x. x % 256 ^ m) whole ∙ add-mod-mod (number_of m old) y (256 ^ m)

-- the bits of a byte that a byte of ones lets through, or one of zeros
pub let_through : (b : Bool) (y m i : ℕ) → bit_and (digit 256 m y i) (if b then 255 else 0) ≡ digit 256 m (if b then y else 0) i
let_through true y m i = and_mask (digit 256 m y i) 8 ∙ omega arith
let_through false y m i = let none : 0 / 256 ^ (m - 1 - i) ≡ 0 = zero-div (256 ^ (m - 1 - i)) in and_zero_r (digit 256 m y i) ∙ omega (arith, none)
