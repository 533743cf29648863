-- The sum of the codes of a segment's rows, one plane more.
use Rattle.std.proofs.Common.{Bool, List, [], ap, arith, count_by, drop, false, get_or, length, refl, sum, sum_by, sym, take, true, ℕ, ◌&&◌, ◌*◌, ◌+◌, ◌-◌, ◌<◌, ◌^◌, ◌≡◌, ◌≤◌, ◌∙◌, ◌∷◌}
use Rattle.std.proofs.Math.Nat.{mul-le-mul, pow-le-pow_right}
use Rattle.std.proofs.lemmas.List.Elements.{All-drop, All-take}
use Rattle.std.specs.Prelude.{All}
use Rattle.bw_mask.specs.Masks.{bit_of, row_in}
use Rattle.bw_aggregate.specs.Descents.{front}
use Rattle.bw_aggregate.specs.Left.{codes_between}
use Rattle.bw_aggregate.specs.Marks.{marked}
use Rattle.bw_aggregate.specs.PlaneSums.{AreBits, AreRows, IsSumTo}
use Rattle.bw_aggregate.proofs.Counting.{count_all}
use Rattle.bw_aggregate.proofs.Descents.{all_chosen}
use Rattle.bw_aggregate.proofs.Fronts.{fronts-all, fronts-bound, fronts-more, fronts-none}
use Rattle.bw_aggregate.proofs.LeftRows.{marked_between}
use Rattle.bw_aggregate.proofs.Marks.{marked_few, marked_same}

and_true : (b : Bool) → b ≡ (b && true)
and_true true = refl
and_true false = refl

sum_empty : (xs : List ℕ) → length xs ≡ 0 → sum xs ≡ 0
sum_empty [] e = refl
sum_empty (x ∷ xs) e = absurd (omega (arith, e))

module _ (need : List Bool) (codes : List ℕ) (same : length need ≡ length codes) (q : ℕ) where
  abbrev held : List ℕ
  held = codes_between need codes (256 * q) (256 * q + 256)

  size : (256 * q + 256) - 256 * q ≡ 256
  size = omega arith

  counted : (p : ℕ → Bool) → marked 256 (λ r. get_or need (256 * q + r) false && p (get_or codes (256 * q + r) 0)) ≡ count_by p held
  counted p = sym (ap (λ n. marked n (λ r. get_or need (256 * q + r) false && p (get_or codes (256 * q + r) 0))) size) ∙ marked_between need codes p (256 * q) (256 * q + 256) same

  held_few : length held ≤ 256
  held_few = omega (arith, count_all held, counted (λ c. true), marked_few 256 (λ r. get_or need (256 * q + r) false && true))

  pub held_below : (k : ℕ) → All (λ c. c < 2 ^ k) codes → All (λ c. c < 2 ^ k) held
  held_below k below =
      let n = (256 * q + 256) - 256 * q in
      all_chosen k (take n (drop (256 * q) need)) (take n (drop (256 * q) codes)) (All-take (λ c. c < 2 ^ k) n (drop (256 * q) codes) (All-drop (λ c. c < 2 ^ k) (256 * q) codes below))

  pub none_yet : (k : ℕ) → All (λ c. c < 2 ^ k) codes → IsSumTo need codes q k 0
  none_yet k below = sym (fronts-none k held (held_below k below))

  pub all_added : (total : ℕ) → IsSumTo need codes q 0 total → total ≡ sum held
  all_added total is = is ∙ fronts-all held

  -- where no row is in, the sum is 0
  pub none_in : (rows : List ℕ) → AreRows need q rows → marked 256 (row_in rows) ≡ 0 → 0 ≡ sum held
  none_in rows are none =
      let all : marked 256 (row_in rows) ≡ marked 256 (λ r. get_or need (256 * q + r) false && true) = marked_same 256 (row_in rows) (λ r. get_or need (256 * q + r) false && true) (λ j h. are j h ∙ and_true _) in
      sym (sum_empty held (omega (arith, all, none, counted (λ c. true), count_all held)))

  module _ (k : ℕ) (narrow : k ≤ 32) (below : All (λ c. c < 2 ^ k) codes) (rows plane : List ℕ) (are : AreRows need q rows) (i : ℕ) (bits : AreBits codes q i plane) where
    ones : marked 256 (λ j. row_in rows j && row_in plane j) ≡ count_by (λ c. bit_of c i) held
    ones =
        marked_same 256 (λ j. row_in rows j && row_in plane j) (λ r. get_or need (256 * q + r) false && bit_of (get_or codes (256 * q + r) 0) i) (λ j h. rw (are j h, bits j h) refl)
        ∙ counted (λ c. bit_of c i)

    bound : sum_by (front i) held ≤ 256 * 2 ^ 32
    bound =
        let most = fronts-bound i k held (held_below k below) in
        let wide : 2 ^ k ≤ 2 ^ 32 = pow-le-pow_right {n = 2} (omega arith) {i = k} {j = 32} narrow in
        let both : length held * 2 ^ k ≤ 256 * 2 ^ 32 = mul-le-mul held_few wide in
        omega (arith, most, both)

    pub plane_added : (before : ℕ) → IsSumTo need codes q (i + 1) before → (before * 2 + marked 256 (λ j. row_in rows j && row_in plane j) ≡ sum_by (front i) held) × (before * 2 + marked 256 (λ j. row_in rows j && row_in plane j) < 2 ^ 64)
    plane_added before is =
        let more = fronts-more i held in
        let sums : before * 2 + marked 256 (λ j. row_in rows j && row_in plane j) ≡ sum_by (front i) held = omega (arith, more, is, ones) in
        (sums, omega (arith, sums, bound))
