-- The upper slices and the last four, by themselves: codes of more than 32 bits.
use Rattle.std.proofs.Common.{Global, List, Vec, [], ap, arith, drop, get_or, suc, sym, take, zero, ℕ, ◌%◌, ◌*◌, ◌+◌, ◌-◌, ◌/◌, ◌<◌, ◌^◌, ◌≡◌, ◌≤◌, ◌∙◌}
use Rattle.std.proofs.Math.Nat.{div-div-eq-div-mul}
use Rattle.std.proofs.Math.Pow.{pow_mono}
use Rattle.std.proofs.lemmas.List.{drop-map, get_or-drop, get_or-take, take-map}
use Rattle.std.proofs.lemmas.Nat.{pow-add}
use Rattle.bw_code.specs.Units.{digit}
use Rattle.bw_byteslice.specs.Slices.{shift_of, slices_of}
use Rattle.bw_byteslice.specs.Storing.{byte_of, bytes_of, code_of, number_at}
use Rattle.bw_byteslice.proofs.Numbers.{number_join}
use Rattle.bw_byteslice.proofs.Raised.{pow_bytes}

module _ (m : ℕ) (slices : List (Vec ℕ Global)) where
  pub upper_at : (i : ℕ) → i < m → get_or (bytes_of (take m slices)) i [] ≡ get_or (bytes_of slices) i []
  upper_at i h = ap (λ xs. get_or xs i []) (sym (take-map (λ v. v.items) m slices)) ∙ get_or-take m (bytes_of slices) i [] h

  pub lower_at : (n i : ℕ) → i < n → get_or (bytes_of (take n (drop m slices))) i [] ≡ get_or (bytes_of slices) (m + i) []
  lower_at n i h =
      ap (λ xs. get_or xs i []) (sym (take-map (λ v. v.items) n (drop m slices)))
      ∙ get_or-take n (bytes_of (drop m slices)) i [] h
      ∙ ap (λ xs. get_or xs i []) (sym (drop-map (λ v. v.items) m slices))
      ∙ get_or-drop m (bytes_of slices) i []

-- the code of a row whose number was put together from two
pub wide_code : (m k s u l j x : ℕ) (slices : List (Vec ℕ Global)) → slices_of k ≡ m + 4 → u ≡ m → l ≡ 4 → s ≡ shift_of k
    → x ≡ (2 ^ 32 * number_at u (bytes_of (take m slices)) j + number_at l (bytes_of (take 4 (drop m slices))) j) / 2 ^ s → x ≡ code_of k (bytes_of slices) j
wide_code m k s u l j x slices count upper lower shift is =
    let all = number_join m (byte_of (bytes_of slices) j) (byte_of (bytes_of (take m slices)) j) (byte_of (bytes_of (take 4 (drop m slices))) j)
    (λ i h. ap (λ xs. get_or xs j 0) (upper_at m slices i h)) (λ i h. ap (λ xs. get_or xs j 0) (lower_at m slices 4 i h)) in
    is
    ∙ ap (λ n. (2 ^ 32 * number_at n (bytes_of (take m slices)) j + number_at l (bytes_of (take 4 (drop m slices))) j) / 2 ^ s) upper
    ∙ ap (λ n. (2 ^ 32 * number_at m (bytes_of (take m slices)) j + number_at n (bytes_of (take 4 (drop m slices))) j) / 2 ^ s) lower
    ∙ ap (λ y. y / 2 ^ s) (sym all)
    ∙ ap (λ n. number_at (m + 4) (bytes_of slices) j / 2 ^ n) shift
    ∙ ap (λ n. number_at n (bytes_of slices) j / 2 ^ shift_of k) (sym count)

-- a byte of the number without its four lowest bytes
pub upper_digit : (m x i : ℕ) → m ≤ 4 → x < 256 ^ (m + 4) → i < m → digit 256 m (x / 2 ^ 32 % 2 ^ 32) i ≡ digit 256 (m + 4) x i
upper_digit m x i few small h =
    let top : 2 ^ (8 * (m + 4)) ≤ 2 ^ 64 = pow_mono {i = 8 * (m + 4)} {j = 64} (omega (arith, few)) in
    let fits : x < 2 ^ 64 = omega (arith, small, pow_bytes (m + 4), top) in
    let all : x / 2 ^ 32 % 2 ^ 32 ≡ x / 2 ^ 32 = omega (arith, fits) in
    let place : m + 4 - 1 - i ≡ 4 + (m - 1 - i) = omega (arith, h) in
    ap (λ y. y / 256 ^ (m - 1 - i) % 256) all
    ∙ ap (λ y. y % 256) (div-div-eq-div-mul x (256 ^ 4) (256 ^ (m - 1 - i)) ∙ ap (λ d. x / d) (sym (ap (λ e. 256 ^ e) place ∙ pow-add 256 4 (m - 1 - i))))

part_digit : (x d : ℕ) → d < 4 → x % 2 ^ 32 / 256 ^ d % 256 ≡ x / 256 ^ d % 256
part_digit x zero h = omega arith
part_digit x (suc zero) h = omega arith
part_digit x (suc (suc zero)) h = omega arith
part_digit x (suc (suc (suc zero))) h = omega arith
part_digit x (suc (suc (suc (suc d)))) h = absurd (omega (arith, h))

-- one of its four lowest bytes
pub lower_digit : (m x e : ℕ) → e < 4 → digit 256 4 (x / 2 ^ 0 % 2 ^ 32) e ≡ digit 256 (m + 4) x (m + e)
lower_digit m x e h =
    let all : x / 2 ^ 0 % 2 ^ 32 ≡ x % 2 ^ 32 = omega arith in
    let place : m + 4 - 1 - (m + e) ≡ 4 - 1 - e = omega (arith, h) in
    ap (λ y. y / 256 ^ (4 - 1 - e) % 256) all ∙ part_digit x (4 - 1 - e) (omega (arith, h)) ∙ ap (λ d. x / 256 ^ d % 256) (sym place)
