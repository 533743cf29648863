-- Numbers and their bytes.
use Rattle.std.proofs.Common.{add-one, ap, arith, refl, suc, sym, zero, ℕ, ◌%◌, ◌*◌, ◌+◌, ◌-◌, ◌/◌, ◌<◌, ◌^◌, ◌≡◌, ◌≤◌, ◌∙◌, subst}
use Rattle.std.proofs.Math.Nat.{div-add-mod, div-div-eq-div-mul, div-eq_of_lt, div-one, pow-suc, pow-zero}
use Rattle.std.proofs.Math.Pow.{pow_mono}
use Rattle.bw_code.specs.Units.{digit}
use Rattle.bw_byteslice.specs.Slices.{number_of}
use Rattle.bw_byteslice.proofs.Raised.{pow_bytes}

pub number_none : (byte : ℕ → ℕ) → number_of 0 byte ≡ 0
unfolding number_of
number_none byte = refl

pub number_more : (n : ℕ) (byte : ℕ → ℕ) → number_of (n + 1) byte ≡ number_of n byte * 256 + byte n
unfolding number_of
number_more n byte = rw add-one refl

pub number_of_one : (byte : ℕ → ℕ) → number_of 1 byte ≡ byte 0
unfolding number_of
number_of_one byte = omega arith

pub number_of_two : (byte : ℕ → ℕ) → number_of 2 byte ≡ byte 0 * 256 + byte 1
unfolding number_of
number_of_two byte = omega arith

pub number_of_three : (byte : ℕ → ℕ) → number_of 3 byte ≡ (byte 0 * 256 + byte 1) * 256 + byte 2
unfolding number_of
number_of_three byte = omega arith

pub number_of_four : (byte : ℕ → ℕ) → number_of 4 byte ≡ ((byte 0 * 256 + byte 1) * 256 + byte 2) * 256 + byte 3
unfolding number_of
number_of_four byte = omega arith

pub number_same : (n : ℕ) (f g : ℕ → ℕ) → ((i : ℕ) → i < n → f i ≡ g i) → number_of n f ≡ number_of n g
unfolding number_of
number_same zero f g same = refl
number_same (suc n) f g same = rw (number_same n f g (λ i h. same i (omega arith)), same n (omega arith)) refl

pub number_zero : (n : ℕ) (byte : ℕ → ℕ) → ((i : ℕ) → i < n → byte i ≡ 0) → number_of n byte ≡ 0
unfolding number_of
number_zero zero byte none = refl
number_zero (suc n) byte none = rw (number_zero n byte (λ i h. none i (omega arith)), none n (omega arith)) refl

module _ (byte : ℕ → ℕ) (fits : (i : ℕ) → byte i < 256) where
  pub number_fits : (m : ℕ) → number_of m byte < 256 ^ m
  unfolding number_of
  number_fits zero = rw (pow-zero 256) (omega arith)
  number_fits (suc m) = omega (arith, pow-suc 256 m, number_fits m, fits m)

  -- the first n bytes
  front_of : (d n : ℕ) → number_of (n + d) byte / 256 ^ d ≡ number_of n byte
  front_of zero n =
      let all : n + 0 ≡ n = omega arith in
      ap (λ k. number_of k byte / 256 ^ 0) all ∙ ap (λ p. number_of n byte / p) (pow-zero 256) ∙ div-one (number_of n byte)
  front_of (suc d) n =
      let more : n + suc d ≡ (n + d) + 1 = omega arith in
      let above : 256 ^ suc d ≡ 256 * 256 ^ d = pow-suc 256 d ∙ omega arith in
      let x = number_of (n + d) byte * 256 + byte (n + d) in
      let whole : x / 256 ≡ number_of (n + d) byte = omega (arith, fits (n + d)) in
      ap (λ k. number_of k byte / 256 ^ suc d) more
      ∙ ap (λ y. y / 256 ^ suc d) (number_more (n + d) byte)
      ∙ ap (λ p. x / p) above
      ∙ sym (div-div-eq-div-mul x 256 (256 ^ d))
      ∙ ap (λ y. y / 256 ^ d) whole
      ∙ front_of d n

  pub digit_of_number : (m i : ℕ) → i < m → digit 256 m (number_of m byte) i ≡ byte i
  digit_of_number m i h =
      let d = m - 1 - i in
      let split : m ≡ (i + 1) + d = omega arith in
      ap (λ k. number_of k byte / 256 ^ d % 256) split
      ∙ ap (λ y. y % 256) (front_of d (i + 1) ∙ number_more i byte)
      ∙ omega (arith, fits i)

pub number_small : (byte : ℕ → ℕ) → ((i : ℕ) → byte i < 256) → (n : ℕ) → n ≤ 7 → number_of n byte < 2 ^ 56
number_small byte fits n few =
    let top : 2 ^ (8 * n) ≤ 2 ^ 56 = pow_mono {i = 8 * n} {j = 56} (omega arith) in
    omega (arith, number_fits byte fits n, pow_bytes n, top)

-- the number that its own digits make
number_of_front : (x n d : ℕ) → x < 256 ^ (n + d) → number_of n (λ i. digit 256 (n + d) x i) ≡ x / 256 ^ d
unfolding number_of
number_of_front x zero d h = let all : 0 + d ≡ d = omega arith in sym (div-eq_of_lt (subst (λ e. x < 256 ^ e) all h))
number_of_front x (suc n) d h =
    let shift : suc n + d ≡ n + suc d = omega arith in
    let place : (suc n + d) - 1 - n ≡ d = omega arith in
    let y = x / 256 ^ d in
    let high : x / 256 ^ suc d ≡ y / 256 = ap (λ p. x / p) (pow-suc 256 d) ∙ sym (div-div-eq-div-mul x (256 ^ d) 256) in
    let before : number_of n (λ i. digit 256 (suc n + d) x i) ≡ y / 256 =
    ap (λ m. number_of n (λ i. digit 256 m x i)) shift ∙ number_of_front x n (suc d) (subst (λ e. x < 256 ^ e) shift h) ∙ high in
    let here : digit 256 (suc n + d) x n ≡ y % 256 = ap (λ e. x / 256 ^ e % 256) place in
    rw (before, here) (omega (arith, div-add-mod y 256))

pub number_of_digits : (m x : ℕ) → x < 256 ^ m → number_of m (λ i. digit 256 m x i) ≡ x
number_of_digits m x h =
    let all : m ≡ m + 0 = omega arith in
    ap (λ e. number_of m (λ i. digit 256 e x i)) all ∙ number_of_front x m 0 (subst (λ e. x < 256 ^ e) all h) ∙ ap (λ p. x / p) (pow-zero 256) ∙ div-one x

-- a number by its upper bytes and its four lowest
pub number_join : (m : ℕ) (byte f g : ℕ → ℕ) → ((i : ℕ) → i < m → f i ≡ byte i) → ((i : ℕ) → i < 4 → g i ≡ byte (m + i)) → number_of (m + 4) byte ≡ 2 ^ 32 * number_of m f + number_of 4 g
number_join m byte f g upper lower =
    let first : number_of (m + 0 + 1) byte ≡ number_of (m + 0) byte * 256 + byte (m + 0) = number_more (m + 0) byte in
    let second : number_of (m + 1 + 1) byte ≡ number_of (m + 1) byte * 256 + byte (m + 1) = number_more (m + 1) byte in
    let third : number_of (m + 2 + 1) byte ≡ number_of (m + 2) byte * 256 + byte (m + 2) = number_more (m + 2) byte in
    let fourth : number_of (m + 3 + 1) byte ≡ number_of (m + 3) byte * 256 + byte (m + 3) = number_more (m + 3) byte in
    let none : m + 0 ≡ m = omega arith in
    let start : number_of (m + 0) byte ≡ number_of m f = ap (λ n. number_of n byte) none ∙ sym (number_same m f byte upper) in
    let one : number_of (m + 1) byte ≡ number_of (m + 0 + 1) byte = ap (λ n. number_of n byte) (omega arith) in
    let two : number_of (m + 2) byte ≡ number_of (m + 1 + 1) byte = ap (λ n. number_of n byte) (omega arith) in
    let three : number_of (m + 3) byte ≡ number_of (m + 2 + 1) byte = ap (λ n. number_of n byte) (omega arith) in
    let four : number_of (m + 4) byte ≡ number_of (m + 3 + 1) byte = ap (λ n. number_of n byte) (omega arith) in
    omega (arith, first, second, third, fourth, start, one, two, three, four, number_of_four g, lower 0 (omega arith), lower 1 (omega arith), lower 2 (omega arith), lower 3 (omega arith))
