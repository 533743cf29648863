-- The ends of some codes, and of those of the rows after theirs.
use Rattle.std.proofs.Common.{Bool, ap, arith, false, inl, inr, max, min, not, refl, sym, true, ℕ, ◌+◌, ◌-◌, ◌<◌, ◌≡◌, ◌≤◌, ◌∙◌}
use Rattle.std.proofs.lemmas.Bool.{cases_lt}
use Rattle.bw_vertical.specs.Descents.{AreCodeEnds}
use Rattle.bw_vertical.specs.declared.code_ends.CodeEnds.{CodeEnds}

module _ (has f : ℕ → Bool) (code g : ℕ → ℕ) (n m : ℕ) (bits : (r : ℕ) → r < m → has (n + r) ≡ f r) (codes : (r : ℕ) → r < m → code (n + r) ≡ g r)
    (a b : CodeEnds) (first : AreCodeEnds has code n a) (second : AreCodeEnds f g m b) where
  place : (i : ℕ) → n ≤ i → n + (i - n) ≡ i
  place i h = omega (arith, h)

  bit_there : (i : ℕ) → n ≤ i → i < n + m → has i ≡ true → f (i - n) ≡ true
  bit_there i low high on = sym (bits (i - n) (omega (arith, low, high))) ∙ ap has (place i low) ∙ on

  code_there : (i : ℕ) → n ≤ i → i < n + m → g (i - n) ≡ code i
  code_there i low high = sym (codes (i - n) (omega (arith, low, high))) ∙ ap code (place i low)

  -- where none of the first has a code
  pub only_second : a.any ≡ false → AreCodeEnds has code (n + m) b
  only_second none = record {
    bounds = λ i h on.
        elim (cases_lt i n) [
          | inl low ↦ (let no : false ≡ true = sym none ∙ (first.bounds i low on).0 in absurd cc)
          | inr past ↦ (let here = second.bounds (i - n) (omega (arith, h, past)) (bit_there i past h on) in (here.0, omega (arith, here.1, code_there i past h), omega (arith, here.2, code_there i past h)))
        ];
    least = λ any. let at = second.least any in (n + at.0, omega (arith, at.1), bits at.0 at.1 ∙ at.2, codes at.0 at.1 ∙ at.3);
    greatest = λ any. let at = second.greatest any in (n + at.0, omega (arith, at.1), bits at.0 at.1 ∙ at.2, codes at.0 at.1 ∙ at.3);
  }

  -- where none of the second has one
  pub only_first : b.any ≡ false → AreCodeEnds has code (n + m) a
  only_first none = record {
    bounds = λ i h on.
        elim (cases_lt i n) [
          | inl low ↦ first.bounds i low on
          | inr past ↦ (let no : false ≡ true = sym none ∙ (second.bounds (i - n) (omega (arith, h, past)) (bit_there i past h on)).0 in absurd cc)
        ];
    least = λ any. let at = first.least any in (at.0, omega (arith, at.1), at.2, at.3);
    greatest = λ any. let at = first.greatest any in (at.0, omega (arith, at.1), at.2, at.3);
  }

  abbrev joined : CodeEnds
  joined = record { any = true; least = min a.least b.least; greatest = max a.greatest b.greatest }

  pub both_ends : a.any ≡ true → b.any ≡ true → AreCodeEnds has code (n + m) joined
  both_ends some more = record {
    bounds = λ i h on.
        elim (cases_lt i n) [
          | inl low ↦ (let here = first.bounds i low on in (refl, omega (arith, here.1), omega (arith, here.2)))
          | inr past ↦ (let here = second.bounds (i - n) (omega (arith, h, past)) (bit_there i past h on) in (refl, omega (arith, here.1, code_there i past h), omega (arith, here.2, code_there i past h)))
        ];
    least = λ all.
        elim (cases_lt b.least a.least) [
          | inl less ↦ (let at = second.least more in (n + at.0, omega (arith, at.1), bits at.0 at.1 ∙ at.2, omega (arith, codes at.0 at.1, at.3, less)))
          | inr other ↦ (let at = first.least some in (at.0, omega (arith, at.1), at.2, omega (arith, at.3, other)))
        ];
    greatest = λ all.
        elim (cases_lt a.greatest b.greatest) [
          | inl less ↦ (let at = second.greatest more in (n + at.0, omega (arith, at.1), bits at.0 at.1 ∙ at.2, omega (arith, codes at.0 at.1, at.3, less)))
          | inr other ↦ (let at = first.greatest some in (at.0, omega (arith, at.1), at.2, omega (arith, at.3, other)))
        ];
  }

-- a Bool by what its negation is
pub turned : (b : Bool) → not b ≡ true → b ≡ false
turned true e = absurd cc
turned false e = refl

pub on : (b : Bool) → not b ≡ false → b ≡ true
on true e = refl
on false e = absurd cc
