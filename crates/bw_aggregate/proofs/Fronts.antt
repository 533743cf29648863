-- Sums of codes without their lowest i bits, one plane more.
use Rattle.std.proofs.Common.{List, [], arith, cond, count_by, length, refl, sum, sum_by, ℕ, ◌%◌, ◌*◌, ◌+◌, ◌/◌, ◌<◌, ◌^◌, ◌≡◌, ◌≤◌, ◌∷◌}
use Rattle.std.proofs.Math.Nat.{div-eq_of_lt, div-le_self, div-one}
use Rattle.std.proofs.lemmas.List.Elements.{All-head, All-tail}
use Rattle.std.proofs.lemmas.List.Sums.{sum_by-cons}
use Rattle.std.proofs.lemmas.Nat.Bits.{bit_at-lt}
use Rattle.std.specs.Int.{bit_at}
use Rattle.std.specs.Prelude.{All}
use Rattle.bw_mask.specs.Masks.{bit_of}
use Rattle.bw_aggregate.specs.Descents.{front}
use Rattle.bw_aggregate.proofs.Counting.{count_cons}
use Rattle.bw_aggregate.proofs.Descents.{front-half}

pub front-more : (i code : ℕ) → front i code ≡ 2 * front (i + 1) code + cond (bit_of code i) 1 0
front-more i code =
    let bit : ◌≡◌ {A = ℕ} (cond (bit_of code i) 1 0) (bit_at code i) = grind (arith, bit_at-lt code i) in
    let half = front-half i code in
    let halves : front i code ≡ front i code / 2 * 2 + front i code % 2 = omega arith in
    omega (arith, half, halves, bit)

-- one plane more
pub fronts-more : (i : ℕ) (codes : List ℕ) → sum_by (front i) codes ≡ 2 * sum_by (front (i + 1)) codes + count_by (λ c. bit_of c i) codes
fronts-more i [] = omega arith
fronts-more i (c ∷ codes) =
    let rest = fronts-more i codes in
    let one = front-more i c in
    omega (arith, sum_by-cons (front i) c codes, sum_by-cons (front (i + 1)) c codes, count_cons (λ x. bit_of x i) c codes)

-- codes of k bits, without these
pub fronts-none : (k : ℕ) (codes : List ℕ) → All (λ c. c < 2 ^ k) codes → sum_by (front k) codes ≡ 0
fronts-none k [] all = refl
fronts-none k (c ∷ codes) all =
    let rest = fronts-none k codes (All-tail (λ x. x < 2 ^ k) c codes all) in
    let none : front k c ≡ 0 = div-eq_of_lt (All-head (λ x. x < 2 ^ k) c codes all) in
    omega (arith, sum_by-cons (front k) c codes)

pub fronts-all : (codes : List ℕ) → sum_by (front 0) codes ≡ sum codes
fronts-all [] = refl
fronts-all (c ∷ codes) =
    let rest = fronts-all codes in
    let one : front 0 c ≡ c = div-one c in
    omega (arith, sum_by-cons (front 0) c codes, sum_by-cons (λ x. x) c codes)

-- and they are no more
pub fronts-fewer : (i : ℕ) (codes : List ℕ) → sum_by (front i) codes ≤ sum codes
fronts-fewer i [] = omega arith
fronts-fewer i (c ∷ codes) =
    let rest = fronts-fewer i codes in
    let less : front i c ≤ c = div-le_self c (2 ^ i) in
    omega (arith, sum_by-cons (front i) c codes, sum_by-cons (λ x. x) c codes)

pub fronts-bound : (i k : ℕ) (codes : List ℕ) → All (λ c. c < 2 ^ k) codes → sum_by (front i) codes ≤ length codes * 2 ^ k
fronts-bound i k [] all = omega arith
fronts-bound i k (c ∷ codes) all =
    let rest = fronts-bound i k codes (All-tail (λ x. x < 2 ^ k) c codes all) in
    let one : c < 2 ^ k = All-head (λ x. x < 2 ^ k) c codes all in
    let less : front i c ≤ c = div-le_self c (2 ^ i) in
    omega (arith, sum_by-cons (front i) c codes)
