-- Entries below an integer, in ascending order.
use Rattle.std.proofs.Common.{List, ap, arith, get_or, inl, inr, length, pos, ℕ, ℤ, ◌+◌, ◌<ℤ◌, ◌<◌, ◌≡◌, ◌≤ℤ◌, ◌∙◌}
use Rattle.std.specs.Prelude.{Contains}
use Rattle.std.proofs.lemmas.Bool.{cases_eq, cases_lt}
use Rattle.std.proofs.lemmas.Int.{ints}
use Rattle.std.proofs.lemmas.List.{get_or_default}
use Rattle.bw_code.specs.Ascending.{IsAscending}
use Rattle.bw_dictionary.specs.Finding.{AreBelow}

module _ (entries : List ℤ) (x : ℤ) (up : IsAscending entries) where
  -- with an entry all before it are below
  pub below_to : (n : ℕ) → n < length entries → get_or entries n (pos 0) <ℤ x → AreBelow entries x (n + 1)
  below_to n h less k l =
      elim (cases_lt k n) [
        | inl inner ↦ let before = up k n inner h in omega (arith, ints, before, less)
        | inr last ↦ let same : k ≡ n = omega (arith, l, last) in rw same less
      ]

  -- where the first that is not below is another, or none, the integer is no entry
  pub is_absent : (n : ℕ) → AreBelow entries x n → (n < length entries → x ≤ℤ get_or entries n (pos 0)) → (n < length entries → get_or entries n (pos 0) ≡ x → ⊥) → Contains entries x → ⊥
  is_absent n below from other there =
      let is : get_or entries there.0 (pos 0) ≡ x = get_or_default entries there.0 (pos 0) x there.1 ∙ there.2 in
      elim (cases_lt there.0 n) [
        | inl before ↦ let less = below there.0 before in absurd (omega (arith, ints, less, is))
        | inr upto ↦ elim (cases_eq n there.0) [
          | inl same ↦ other (omega (arith, same, there.1)) (ap (λ k. get_or entries k (pos 0)) same ∙ is)
          | inr apart ↦
              let inner : n < there.0 = omega (arith, upto, apart) in
              let above = up n there.0 inner there.1 in
              let least = from (omega (arith, inner, there.1)) in
              absurd (omega (arith, ints, above, least, is))
        ]
      ]
