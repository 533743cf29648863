-- An integer put among ascending entries.
use Rattle.std.proofs.Common.{List, arith, get_or, inl, inr, length, pos, ℕ, ℤ, ◌+◌, ◌-◌, ◌<ℤ◌, ◌<◌, ◌≡◌, ◌≤ℤ◌, ◌≤◌, ◌∙◌}
use Rattle.std.specs.List.{insert}
use Rattle.std.specs.Prelude.{Contains}
use Rattle.std.proofs.lemmas.Bool.{cases_eq, cases_lt}
use Rattle.std.proofs.lemmas.Int.{by_lt_z, ints}
use Rattle.std.proofs.lemmas.List.{get_or_default}
use Rattle.std.proofs.lemmas.List.Edits.{get_or-insert_above, get_or-insert_at, get_or-insert_below, length-insert}
use Rattle.bw_code.specs.Ascending.{IsAscending}
use Rattle.bw_dictionary.specs.Finding.{AreBelow}

module _ (entries : List ℤ) (x : ℤ) (n : ℕ) (inside : n ≤ length entries) where
  -- after the new one, each is one index further
  at_later : (k : ℕ) → n < k → get_or (insert entries n x) k (pos 0) ≡ get_or entries (k - 1) (pos 0)
  at_later k h =
      let is : k - 1 + 1 ≡ k = omega (arith, h) in
      let it = get_or-insert_above entries n x (pos 0) (k - 1) (omega (arith, h)) inside in
      rw is at it

  module _ (up : IsAscending entries) (below : AreBelow entries x n) (from : (k : ℕ) → n ≤ k → k < length entries → x <ℤ get_or entries k (pos 0)) where
    pub still_ascending : IsAscending (insert entries n x)
    still_ascending i j less h =
        let many = length-insert entries n x inside in
        elim (cases_lt j n) [
          | inl first ↦
              let up_here = up i j less (omega (arith, first, inside)) in
              rw (get_or-insert_below entries n x (pos 0) i (omega (arith, less, first)) inside, get_or-insert_below entries n x (pos 0) j first inside) up_here
          | inr not_first ↦ elim (cases_eq j n) [
            | inl here ↦
                let low = below i (omega (arith, less, here)) in
                rw (here, get_or-insert_below entries n x (pos 0) i (omega (arith, less, here)) inside, get_or-insert_at entries n x (pos 0) inside) low
            | inr other ↦
                let past : n < j = omega (arith, not_first, other) in
                let above = from (j - 1) (omega (arith, past)) (omega (arith, past, h, many)) in
                elim (cases_lt i n) [
                  | inl before ↦
                      let low = below i before in
                      rw (get_or-insert_below entries n x (pos 0) i before inside, at_later j past) (omega (arith, ints, low, above))
                  | inr not_before ↦ elim (cases_eq i n) [
                    | inl at ↦ rw (at, get_or-insert_at entries n x (pos 0) inside, at_later j past) above
                    | inr further ↦
                        let later : n < i = omega (arith, not_before, further) in
                        let up_here = up (i - 1) (j - 1) (omega (arith, later, less)) (omega (arith, past, h, many)) in
                        rw (at_later i later, at_later j past) up_here
                  ]
                ]
          ]
        ]

-- where the first entry that is not below an integer is another, all from there on are above
pub all_above : (entries : List ℤ) (x : ℤ) (n : ℕ) → IsAscending entries → (n < length entries → x ≤ℤ get_or entries n (pos 0)) → (Contains entries x → ⊥) → (k : ℕ) → n ≤ k → k < length entries → x <ℤ get_or entries k (pos 0)
all_above entries x n up from none k h low =
    let other : get_or entries k (pos 0) ≡ x → ⊥ = λ is. none (k, low, get_or_default entries k x (pos 0) low ∙ is) in
    elim (cases_eq n k) [
      | inl same ↦ let least = from (omega (arith, same, low)) in let least_here = rw same at least in apart least_here other
      | inr further ↦
          let inner : n < k = omega (arith, h, further) in
          let less = up n k inner low in
          let least = from (omega (arith, inner, low)) in
          omega (arith, ints, less, least)
    ]
  where
    apart : {y z : ℤ} → z ≤ℤ y → (y ≡ z → ⊥) → z <ℤ y
    apart {y} {z} le other = by_lt_z z y (λ less. less) (λ more. absurd (other (omega (arith, ints, le, more))))
