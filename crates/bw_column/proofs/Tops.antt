-- The top bytes of codes in slices.
use Rattle.std.proofs.Common.{ap, arith, inl, inr, suc, ℕ, ◌*◌, ◌-◌, ◌/◌, ◌<◌, ◌^◌, ◌∙◌, ◌≡◌, ◌≤◌}
use Rattle.std.proofs.Math.Nat.{div-lt_iff_lt-mul, div-mul-le_self, mod-eq_of_lt, mul-le-mul_right, one-le-pow, pow-suc}
use Rattle.std.proofs.lemmas.Bool.{cases_lt}
use Rattle.std.proofs.lemmas.Nat.{le-div}
use Rattle.bw_code.specs.Units.{digit}
use Rattle.bw_byteslice.specs.Slices.{shift_of, slices_of}
use Rattle.bw_byteslice.proofs.Raised.{raised_fits}

-- the top byte of a code of k bits never falls where the code grows
module _ (k : ℕ) (some : 1 ≤ k) where
  abbrev below_top : ℕ
  below_top = 256 ^ (slices_of k - 1 - 0)

  abbrev raised_code : ℕ → ℕ
  raised_code c = c * 2 ^ shift_of k

  below_some : 0 < below_top
  below_some = one-le-pow (slices_of k - 1 - 0) 256 (omega arith)

  top_is : (c : ℕ) → c < 2 ^ k → digit 256 (slices_of k) (raised_code c) 0 ≡ raised_code c / below_top
  top_is c h =
      let whole : slices_of k ≡ suc (slices_of k - 1 - 0) = omega (arith, some) in
      let bound : 256 ^ slices_of k ≡ below_top * 256 = ap (λ e. 256 ^ e) whole ∙ pow-suc 256 (slices_of k - 1 - 0) in
      let fits : raised_code c < 256 * below_top = omega (arith, raised_fits k c h, bound) in
      mod-eq_of_lt ((div-lt_iff_lt-mul {k = below_top} {x = raised_code c} {y = 256} below_some).1 fits)

  tops_rise : (c d : ℕ) → c ≤ d → raised_code c / below_top ≤ raised_code d / below_top
  tops_rise c d h =
      le-div (raised_code c / below_top) (raised_code d) below_top below_some
      (omega (arith, div-mul-le_self (raised_code c) below_top, mul-le-mul_right {m = c} {n = d} (2 ^ shift_of k) h))

  pub less_by_top : (c d : ℕ) → c < 2 ^ k → d < 2 ^ k → digit 256 (slices_of k) (c * 2 ^ shift_of k) 0 < digit 256 (slices_of k) (d * 2 ^ shift_of k) 0 → c ≤ d
  less_by_top c d c_fits d_fits less =
      elim (cases_lt d c) [
        | inl other ↦ absurd (omega (arith, less, top_is c c_fits, top_is d d_fits, tops_rise d c (omega (arith, other))))
        | inr h ↦ h
      ]
