-- The ends of the codes of a segment, by descents over its planes.
use Rattle.std.proofs.Common.{Bool, List, ap, arith, cond, false, inl, inr, max, min, refl, suc, sym, true, zero, ℕ, ◌*◌, ◌+◌, ◌-◌, ◌/◌, ◌<◌, ◌^◌, ◌≡◌, ◌≤◌, ◌∙◌, pow_pos}
use Rattle.std.proofs.Math.Nat.{div-div-eq-div-mul, div-lt_iff_lt-mul, mul-div-le, mul_comm, pow-suc}
use Rattle.std.proofs.lemmas.Bool.{cases_lt}
use Rattle.bw_mask.specs.Masks.{row_in}
use Rattle.bw_vertical.specs.Descents.{AreEndsSoFar, IsGreatestSoFar, IsGreatestWith, IsLeastSoFar, IsLeastWith}
use Rattle.bw_vertical.specs.Storage.{code_of, is_set, plane_at}
use Rattle.bw_vertical.specs.declared.code_ends.CodeEnds.{CodeEnds}
use Rattle.bw_vertical.specs.declared.descent.Reached.{Reached}
use Rattle.bw_vertical.proofs.Descending.{by_bit, not_both}
use Rattle.bw_vertical.proofs.Holding.{plane_row}
use Rattle.bw_vertical.proofs.Numbers.{bit_most, number, number_lt, number_more}

-- the number that the first p planes make of row r of segment q
abbrev pub begun : ℕ → List (List (List ℕ)) → ℕ → ℕ → ℕ → ℕ
begun k gs q p r = number (λ i. is_set k gs i (256 * q + r)) p

-- one plane more
pub begun_more : (k q p : ℕ) (gs : List (List (List ℕ))) (plane : List ℕ) → plane ≡ plane_at k gs q p → (r : ℕ) → r < 256 → begun k gs q (p + 1) r ≡ cond (row_in plane r) 1 0 + 2 * begun k gs q p r
begun_more k q p gs plane is r h =
    number_more (λ i. is_set k gs i (256 * q + r)) p
    ∙ ap (λ b. cond b 1 0 + 2 * begun k gs q p r) (sym (ap (λ x. row_in x r) is ∙ plane_row k q p r gs h))

-- the n highest bits of a number of n + m bits
highest : (F : ℕ → Bool) (n m : ℕ) → number F (n + m) / 2 ^ m ≡ number F n
highest F n zero = let all : n + 0 ≡ n = omega arith in ap (λ x. number F x / 2 ^ 0) all ∙ omega arith
highest F n (suc m) =
    let next : n + suc m ≡ n + m + 1 = omega arith in
    let half : number F (n + m + 1) / 2 ≡ number F (n + m) = omega (arith, number_more F (n + m), bit_most (F (n + m))) in
    let twice : 2 ^ suc m ≡ 2 * 2 ^ m = pow-suc 2 m ∙ mul_comm (2 ^ m) 2 in
    ap (λ x. number F x / 2 ^ suc m) next ∙ ap (λ x. number F (n + m + 1) / x) twice ∙ sym (div-div-eq-div-mul (number F (n + m + 1)) 2 (2 ^ m))
    ∙ ap (λ x. x / 2 ^ m) half ∙ highest F n m

-- numbers are in the order of their highest bits where these differ
lower : (m x y : ℕ) → x / 2 ^ m < y / 2 ^ m → x < y
lower m x y less =
    let below : x < y / 2 ^ m * 2 ^ m = (div-lt_iff_lt-mul {k = 2 ^ m} {x = x} {y = y / 2 ^ m} (pow_pos m)).0 less in
    omega (arith, below, mul-div-le y (2 ^ m), mul_comm (y / 2 ^ m) (2 ^ m))

module _ (k : ℕ) (gs : List (List (List ℕ))) (q : ℕ) where
  abbrev pub code_here : ℕ → ℕ
  code_here r = code_of k gs (256 * q + r)

  -- before the first plane each number is 0
  none_begun : (r : ℕ) → begun k gs q 0 r ≡ 0
  none_begun r = omega (arith, number_lt (λ i. is_set k gs i (256 * q + r)) 0)

  module _ (rows : List ℕ) (some : (r : ℕ) × (r < 256) × (row_in rows r ≡ true)) where
    pub least_first : IsLeastSoFar (row_in rows) (begun k gs q 0) (record { number = 0; rows = rows })
    least_first = record {
      bound = λ r h on. omega arith;
      each = λ r h on. (on, none_begun r);
      all = λ r h on is. on;
      some = some;
    }

    pub greatest_first : IsGreatestSoFar (row_in rows) (begun k gs q 0) (record { number = 0; rows = rows })
    greatest_first = record {
      bound = λ r h on. omega (arith, none_begun r);
      each = λ r h on. (on, none_begun r);
      all = λ r h on is. on;
      some = some;
    }

  module _ (has : ℕ → Bool) (p best : ℕ) (reached : Reached) where
    -- the numbers of the first planes decide
    top : (r : ℕ) → p < k → code_here r / 2 ^ (k - 1 - p) ≡ begun k gs q (p + 1) r
    top r h =
        let F = λ (i : ℕ). is_set k gs i (256 * q + r) in
        let all : k ≡ p + 1 + (k - 1 - p) = omega (arith, h) in
        ap (λ n. number F n / 2 ^ (k - 1 - p)) all ∙ highest F (p + 1) (k - 1 - p)

    pub least_stopped : p < k → IsLeastSoFar has (begun k gs q (p + 1)) reached → best / 2 ^ (k - 1 - p) < reached.number → IsLeastWith has code_here best best
    least_stopped h so_far more = record {
      most = omega arith;
      bound = λ r low on. let less = lower (k - 1 - p) best (code_here r) (omega (arith, more, so_far.bound r low on, top r h)) in omega (arith, less);
      reached = inl refl;
    }

    pub greatest_stopped : p < k → IsGreatestSoFar has (begun k gs q (p + 1)) reached → reached.number < best / 2 ^ (k - 1 - p) → IsGreatestWith has code_here best best
    greatest_stopped h so_far less = record {
      least = omega arith;
      bound = λ r low on. let below = lower (k - 1 - p) (code_here r) best (omega (arith, less, so_far.bound r low on, top r h)) in omega (arith, below);
      reached = inl refl;
    }

    -- after the last plane
    pub least_whole : p ≡ k → (result : ℕ) → result ≡ min reached.number best → IsLeastSoFar has (begun k gs q p) reached → IsLeastWith has code_here best result
    least_whole all result is so_far = record {
      most = omega (arith, is);
      bound = λ r low on. omega (arith, is, so_far.bound r low on, same r);
      reached =
          elim (cases_lt reached.number best) [
            | inl less ↦ (let at = so_far.some in let here = so_far.each at.0 at.1 at.2 in inr (at.0, at.1, here.0, omega (arith, is, here.1, same at.0, less)))
            | inr other ↦ inl (omega (arith, is, other))
          ];
    }
      where
        same : (r : ℕ) → begun k gs q p r ≡ code_here r
        same r = ap (λ n. begun k gs q n r) all

    pub greatest_whole : p ≡ k → (result : ℕ) → result ≡ max reached.number best → IsGreatestSoFar has (begun k gs q p) reached → IsGreatestWith has code_here best result
    greatest_whole all result is so_far = record {
      least = omega (arith, is);
      bound = λ r low on. omega (arith, is, so_far.bound r low on, same r);
      reached =
          elim (cases_lt best reached.number) [
            | inl more ↦ (let at = so_far.some in let here = so_far.each at.0 at.1 at.2 in inr (at.0, at.1, here.0, omega (arith, is, here.1, same at.0, more)))
            | inr other ↦ inl (omega (arith, is, other))
          ];
    }
      where
        same : (r : ℕ) → begun k gs q p r ≡ code_here r
        same r = ap (λ n. begun k gs q n r) all

-- one segment more
module _
    (has : ℕ → Bool) (code : ℕ → ℕ) (q : ℕ) (rows : List ℕ) (ends : CodeEnds)
    (here : (r : ℕ) → r < 256 → row_in rows r ≡ has (256 * q + r)) (before : AreEndsSoFar has code (256 * q) ends)
  where
    place : (i : ℕ) → 256 * q ≤ i → 256 * q + (i - 256 * q) ≡ i
    place i h = omega (arith, h)

    row_here : (i : ℕ) → 256 * q ≤ i → i < 256 * q + 256 → has i ≡ true → row_in rows (i - 256 * q) ≡ true
    row_here i from to on = here (i - 256 * q) (omega (arith, from, to)) ∙ ap has (place i from) ∙ on

    -- none of its rows has a code
    pub ends_kept : ((r : ℕ) → r < 256 → row_in rows r ≡ false) → AreEndsSoFar has code (256 * q + 256) ends
    ends_kept empty = record {
      found = record {
        bounds = λ i h on.
            elim (cases_lt i (256 * q)) [
              | inl low ↦ before.found.bounds i low on
              | inr from ↦ absurd (not_both (row_in rows (i - 256 * q)) (empty (i - 256 * q) (omega (arith, from, h))) (row_here i from h on))
            ];
        least = λ any. let at = before.found.least any in (at.0, omega (arith, at.1), at.2, at.3);
        greatest = λ any. let at = before.found.greatest any in (at.0, omega (arith, at.1), at.2, at.3);
      };
      none = before.none;
    }

    -- some row has one
    module _
        (small : (i : ℕ) → code i < 2 ^ 64) (some : (r : ℕ) × (r < 256) × (row_in rows r ≡ true)) (low high : ℕ)
        (least : IsLeastWith (row_in rows) (λ r. code (256 * q + r)) ends.least low)
        (greatest : IsGreatestWith (row_in rows) (λ r. code (256 * q + r)) ends.greatest high)
      where
        abbrev Reaches : ℕ → Type 0
        Reaches end = (i : ℕ) × (i < 256 * q + 256) × (has i ≡ true) × (code i ≡ end)

        found_here : (end r : ℕ) → r < 256 → row_in rows r ≡ true → code (256 * q + r) ≡ end → Reaches end
        found_here end r h on is = (256 * q + r, omega (arith, h), sym (here r h) ∙ on, is)

        found_before : (old end : ℕ) → end ≡ old → (i : ℕ) × (i < 256 * q) × (has i ≡ true) × (code i ≡ old) → Reaches end
        found_before old end same at = (at.0, omega (arith, at.1), at.2, at.3 ∙ sym same)

        pub ends_more : AreEndsSoFar has code (256 * q + 256) (record { any = true; least = low; greatest = high })
        ends_more = record {
          found = record {
            bounds = λ i h on.
                elim (cases_lt i (256 * q)) [
                  | inl past ↦ (let old = before.found.bounds i past on in (refl, omega (arith, old.1, least.most), omega (arith, old.2, greatest.least)))
                  | inr from ↦
                      let r = i - 256 * q in
                      let within : r < 256 = omega (arith, from, h) in
                      let on_here = row_here i from h on in
                      let same = ap code (place i from) in
                      (refl, omega (arith, least.bound r within on_here, same), omega (arith, greatest.bound r within on_here, same))
                ];
            least = λ any.
                elim least.reached [
                  | inr at ↦ found_here low at.0 at.1 at.2 at.3
                  | inl is ↦
                      elim (by_bit ends.any) [
                        | inl old ↦ found_before ends.least low is (before.found.least old)
                        | inr none ↦ found_here low some.0 some.1 some.2 (omega (arith, is, (before.none none).0, small (256 * q + some.0), least.bound some.0 some.1 some.2))
                      ]
                ];
            greatest = λ any.
                elim greatest.reached [
                  | inr at ↦ found_here high at.0 at.1 at.2 at.3
                  | inl is ↦
                      elim (by_bit ends.any) [
                        | inl old ↦ found_before ends.greatest high is (before.found.greatest old)
                        | inr none ↦ found_here high some.0 some.1 some.2 (omega (arith, is, (before.none none).1, greatest.bound some.0 some.1 some.2))
                      ]
                ];
          };
          none = λ any. absurd cc;
        }
