-- Distances of codes, without their lowest bits.
use Rattle.std.proofs.Common.{Bool, ap, arith, cond, false, inl, inr, refl, suc, sym, true, zero, ℕ, ◌*◌, ◌+◌, ◌-◌, ◌/◌, ◌<◌, ◌^◌, ◌≡◌, ◌≤◌, ◌∙◌}
use Rattle.std.proofs.Math.Nat.{div-one, pow-suc}
use Rattle.std.proofs.lemmas.Bool.{cases_lt}
use Rattle.bw_mask.specs.Masks.{bit_of}
use Rattle.bw_aggregate.specs.Descents.{front}
use Rattle.bw_aggregate.specs.Ends.{distance, is_near}
use Rattle.bw_aggregate.specs.declared.end.End.{End}
use Rattle.bw_aggregate.specs.declared.end.End.TheVariants.{Greatest, Least}
use Rattle.bw_aggregate.proofs.Descents.{front-half}
use Rattle.bw_aggregate.proofs.Fronts.{front-more}

-- a code, and what it lacks to the greatest of k bits
fronts-both : (k m code : ℕ) → m ≤ k → code < 2 ^ k → front m (2 ^ k - 1 - code) + front m code + 1 ≡ 2 ^ (k - m)
fronts-both k zero code within small =
    let one = div-one (2 ^ k - 1 - code) in
    let two = div-one code in
    let e : k - 0 ≡ k = omega arith in
    rw (one, two, e) (omega (arith, small))
fronts-both k (suc m) code within small =
    let before = fronts-both k m code (omega (arith, within)) small in
    let e : k - m ≡ suc (k - suc m) = omega (arith, within) in
    let twice : 2 ^ (k - m) ≡ 2 ^ (k - suc m) * 2 = ap (λ n. 2 ^ n) e ∙ pow-suc 2 (k - suc m) in
    let d : suc m ≡ m + 1 = omega arith in
    let one : front (suc m) (2 ^ k - 1 - code) ≡ front m (2 ^ k - 1 - code) / 2 = ap (λ n. front n (2 ^ k - 1 - code)) d ∙ front-half m (2 ^ k - 1 - code) in
    let two : front (suc m) code ≡ front m code / 2 = ap (λ n. front n code) d ∙ front-half m code in
    omega (arith, before, twice, one, two)

-- one bit more of a distance
pub distance-more : (end : End) (k m code : ℕ) → m < k → code < 2 ^ k
    → front m (distance end (2 ^ k - 1) code) ≡ 2 * front (m + 1) (distance end (2 ^ k - 1) code) + cond (is_near end (bit_of code m)) 0 1
distance-more Least k m code within small = front-more m code ∙ turned (bit_of code m)
  where
    turned : (b : Bool) → ◌≡◌ {A = ℕ} (2 * front (m + 1) code + cond b 1 0) (2 * front (m + 1) code + cond (is_near Least b) 0 1)
    turned true = refl
    turned false = refl
distance-more Greatest k m code within small =
    let here = fronts-both k m code (omega (arith, within)) small in
    let above = fronts-both k (m + 1) code (omega (arith, within)) small in
    let e : k - m ≡ suc (k - (m + 1)) = omega (arith, within) in
    let twice : 2 ^ (k - m) ≡ 2 ^ (k - (m + 1)) * 2 = ap (λ n. 2 ^ n) e ∙ pow-suc 2 (k - (m + 1)) in
    by (bit_of code m) (front-more m code) here above twice
  where
    by : (b : Bool) → front m code ≡ 2 * front (m + 1) code + cond b 1 0 → front m (2 ^ k - 1 - code) + front m code + 1 ≡ 2 ^ (k - m)
        → front (m + 1) (2 ^ k - 1 - code) + front (m + 1) code + 1 ≡ 2 ^ (k - (m + 1)) → 2 ^ (k - m) ≡ 2 ^ (k - (m + 1)) * 2
        → front m (2 ^ k - 1 - code) ≡ 2 * front (m + 1) (2 ^ k - 1 - code) + cond (is_near Greatest b) 0 1
    by true bit here above twice = omega (arith, bit, here, above, twice)
    by false bit here above twice = omega (arith, bit, here, above, twice)

pub distance-small : (end : End) (k code : ℕ) → code < 2 ^ k → distance end (2 ^ k - 1) code < 2 ^ k
distance-small Least k code small = small
distance-small Greatest k code small = omega (arith, small)

pub fronts-order : (m a b : ℕ) → a ≤ b → front m a ≤ front m b
fronts-order zero a b order = omega (arith, div-one a, div-one b, order)
fronts-order (suc m) a b order =
    let before = fronts-order m a b order in
    let d : suc m ≡ m + 1 = omega arith in
    let one : front (suc m) a ≡ front m a / 2 = ap (λ n. front n a) d ∙ front-half m a in
    let two : front (suc m) b ≡ front m b / 2 = ap (λ n. front n b) d ∙ front-half m b in
    omega (arith, before, one, two)

-- what is farther by its highest bits is farther
pub farther : (m best far : ℕ) → front m best < front m far → best ≤ far
farther m best far less =
    elim (cases_lt far best) [
      | inl under ↦ absurd (omega (arith, less, fronts-order m far best (omega (arith, under))))
      | inr over ↦ over
    ]

-- a distance with a bit above the first of another is no less than that
pub far_by_bit : (m p best far : ℕ) → front m best ≡ 0 → m ≤ p → 0 < front p far → best ≤ far
far_by_bit m p best far none above some =
    let e : (p - m) + m ≡ p = omega (arith, above) in
    let zero_too : front p best ≡ 0 = ap (λ x. front x best) (sym e) ∙ zeros (p - m) in
    farther p best far (omega (arith, some, zero_too))
  where
    zeros : (i : ℕ) → front (i + m) best ≡ 0
    zeros zero = let e : zero + m ≡ m = omega arith in ap (λ x. front x best) e ∙ none
    zeros (suc i) =
        let d : suc i + m ≡ (i + m) + 1 = omega arith in
        let half : front (suc i + m) best ≡ front (i + m) best / 2 = ap (λ x. front x best) d ∙ front-half (i + m) best in
        omega (arith, half, zeros i)
