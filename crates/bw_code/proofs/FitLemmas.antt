-- Codes of so many bits fit a wider number too.
use Rattle.std.proofs.Common.{List, arith, get_or, inl, inr, length, ℕ, ◌<◌, ◌^◌, ◌≤◌}
use Rattle.std.proofs.Math.Pow.{pow_mono}
use Rattle.std.proofs.lemmas.Bool.{cases_lt}
use Rattle.std.proofs.lemmas.List.{get_or_past}
use Rattle.std.proofs.lemmas.List.Elements.{All-get_or, All-weaker}
use Rattle.bw_code.specs.Columns.{Fit}
use Rattle.bw_code.specs.Tests.{TestFits}
use Rattle.bw_code.specs.declared.compare.CodeTest.{CodeTest}
use Rattle.bw_code.specs.declared.compare.CodeTest.TheVariants.{All as Each, Cmp, None, Range}

pub wider : (narrow wide : ℕ) → narrow ≤ wide → (code : ℕ) → code < 2 ^ narrow → code < 2 ^ wide
wider narrow wide le code h = omega (arith, h, pow_mono {i = narrow} {j = wide} le)

pub all_wider : (narrow wide : ℕ) → narrow ≤ wide → (codes : List ℕ) → Fit narrow codes → Fit wide codes
all_wider narrow wide le codes fit = All-weaker (λ code. code < 2 ^ narrow) (λ code. code < 2 ^ wide) (wider narrow wide le) codes fit

pub code_fits : (width : ℕ) → width ≤ 32 → (codes : List ℕ) → Fit width codes → (i : ℕ) → get_or codes i 0 < 2 ^ 32
code_fits width le codes fit i =
    elim (cases_lt i (length codes)) [
      | inl h ↦ wider width 32 le (get_or codes i 0) (All-get_or (λ code. code < 2 ^ width) codes i 0 h fit)
      | inr h ↦ omega (arith, get_or_past codes i 0 h)
    ]

pub code_fits_64 : (width : ℕ) → width ≤ 64 → (codes : List ℕ) → Fit width codes → (i : ℕ) → get_or codes i 0 < 2 ^ 64
code_fits_64 width le codes fit i =
    elim (cases_lt i (length codes)) [
      | inl h ↦ wider width 64 le (get_or codes i 0) (All-get_or (λ code. code < 2 ^ width) codes i 0 h fit)
      | inr h ↦ omega (arith, get_or_past codes i 0 h)
    ]

pub test_wider : (narrow wide : ℕ) → narrow ≤ wide → (test : CodeTest) → TestFits narrow test → TestFits wide test
test_wider narrow wide le None h = tt
test_wider narrow wide le Each h = tt
test_wider narrow wide le (Cmp op constant) h = wider narrow wide le constant h
test_wider narrow wide le (Range low high) h = (wider narrow wide le low h.0, wider narrow wide le high h.1)
