-- When each bit of one word is set in another.
use Rattle.std.proofs.Common.{Bool, ap, arith, bit_and, false, inl, inr, not, refl, sym, true, w64, ℕ, ◌&&◌, ◌-◌, ◌<◌, ◌==◌, ◌^◌, ◌≡◌, ◌∙◌}
use mathlib.Core.Logic.{◌≢◌}
use Rattle.std.specs.Int.{trailing_zeros}
use Rattle.std.proofs.lemmas.Bool.{both_ways, cases_Bool}
use Rattle.std.proofs.lemmas.Nat.{and_le_l}
use Rattle.std.proofs.lemmas.Nat.Bits.{bit_at-trailing_zeros}
use Rattle.bw_mask.specs.Masks.{bit_of}
use Rattle.bw_mask.proofs.Bits.{bit_of_andnot, bit_of_zero}

set_there : (x y : Bool) → (x && not y) ≡ false → x ≡ true → y ≡ true
set_there x y none e =
    elim (cases_Bool y) [
      | inl set ↦ set
      | inr clear ↦ absurd (both_ways (x && not y) none (rw (e, clear) refl))
    ]

not_there : (x y : Bool) → (x && not y) ≡ true → (x ≡ true → y ≡ true) → ⊥
not_there true true some there = both_ways false refl some
not_there true false some there = both_ways false refl (there refl)
not_there false y some there = both_ways false refl some

module _ (a b : ℕ) (small : b < 2 ^ 64) where
  abbrev pub outside : ℕ
  outside = bit_and a (2 ^ 64 - 1 - b)

  pub each_within : outside ≡ 0 → (i : ℕ) → i < 64 → bit_of a i ≡ true → bit_of b i ≡ true
  each_within none i h = set_there (bit_of a i) (bit_of b i) (sym (bit_of_andnot a b i small h) ∙ ap (λ w. bit_of w i) none ∙ bit_of_zero i)

  pub some_outside : a < 2 ^ 64 → outside ≢ 0 → ((i : ℕ) → i < 64 → bit_of a i ≡ true → bit_of b i ≡ true) → ⊥
  some_outside fits some all =
      let lowest = bit_at-trailing_zeros w64 outside (omega (arith, some)) (omega (arith, fits, and_le_l a (2 ^ 64 - 1 - b))) in
      let r = trailing_zeros w64 outside in
      not_there (bit_of a r) (bit_of b r) (sym (bit_of_andnot a b r small lowest.0) ∙ ap (λ x. x == 1) lowest.1) (all r lowest.0)
