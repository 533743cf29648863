-- A descent over the planes of some rows, from the highest bit on: one plane more.
use Rattle.std.proofs.Common.{Bool, List, ap, arith, cond, false, inl, inr, not, refl, sym, true, ℕ, ◌&&◌, ◌*◌, ◌+◌, ◌≡◌, ◌≢◌, ◌∙◌, ◌⊎◌}
use Rattle.bw_file.specs.Descents.{bit_at_row, IsGreatestSoFar, IsLeastSoFar}

by_bit : (b : Bool) → (b ≡ true) ⊎ (b ≡ false)
by_bit true = inl refl
by_bit false = inr refl

both : (a b : Bool) → (a && b) ≡ true → (a ≡ true) × (b ≡ true)
both true true e = (refl, refl)
both true false e = absurd cc
both false b e = absurd cc

off : (b : Bool) → not b ≡ true → b ≡ false
off true e = absurd cc
off false e = refl

no_bit : (b : Bool) → b ≡ false → b ≡ true → ⊥
no_bit b e on = let no : false ≡ true = sym e ∙ on in absurd cc

one_more : (b : Bool) (next code : ℕ) → b ≡ true → next ≡ cond b 1 0 + 2 * code → next ≡ 2 * code + 1
one_more true next code on e = omega (arith, e)
one_more false next code on e = absurd cc

none_more : (b : Bool) (next code : ℕ) → b ≡ false → next ≡ cond b 1 0 + 2 * code → next ≡ 2 * code
none_more true next code off e = absurd cc
none_more false next code off e = omega (arith, e)

module _ (has : ℕ → Bool) (code next : ℕ → ℕ) (number : ℕ) (rows plane : List ℕ) (grows : (r : ℕ) → has r ≡ true → next r ≡ cond (bit_at_row plane r) 1 0 + 2 * code r) where
  module _ (so_far : IsGreatestSoFar has code number rows) where
    in_left : (r : ℕ) → bit_at_row rows r ≡ true → bit_at_row plane r ≡ true → (bit_at_row rows r && bit_at_row plane r) ≡ true
    in_left r a b = ap (λ x. x && bit_at_row plane r) a ∙ b

    pub greater_with : (left : List ℕ) → ((r : ℕ) → bit_at_row left r ≡ (bit_at_row rows r && bit_at_row plane r)) → (r : ℕ) × ((bit_at_row rows r && bit_at_row plane r) ≡ true) → IsGreatestSoFar has next (2 * number + 1) left
    greater_with left kept some = record {
      bound = λ r there.
          elim (by_bit (bit_at_row plane r)) [
            | inl on ↦ omega (arith, so_far.bound r there, one_more (bit_at_row plane r) (next r) (code r) on (grows r there))
            | inr none ↦ omega (arith, so_far.bound r there, none_more (bit_at_row plane r) (next r) (code r) none (grows r there))
          ];
      each = λ r e.
          let in_both = both (bit_at_row rows r) (bit_at_row plane r) (sym (kept r) ∙ e) in
          let here = so_far.each r in_both.0 in
          (here.0, omega (arith, here.1, one_more (bit_at_row plane r) (next r) (code r) in_both.1 (grows r here.0)));
      all = λ r there is.
          elim (by_bit (bit_at_row plane r)) [
            | inl on ↦ kept r ∙ in_left r (so_far.all r there (omega (arith, is, one_more (bit_at_row plane r) (next r) (code r) on (grows r there)))) on
            | inr none ↦ absurd (omega (arith, is, none_more (bit_at_row plane r) (next r) (code r) none (grows r there)))
          ];
      some = (some.0, kept some.0 ∙ some.1);
    }

    pub greater_without : ((r : ℕ) → (bit_at_row rows r && bit_at_row plane r) ≡ false) → IsGreatestSoFar has next (2 * number) rows
    greater_without empty = record {
      bound = λ r there.
          elim (by_bit (bit_at_row plane r)) [
            | inl on ↦
                let other : code r ≢ number = λ is. no_bit (bit_at_row rows r && bit_at_row plane r) (empty r) (in_left r (so_far.all r there is) on) in
                omega (arith, other, so_far.bound r there, one_more (bit_at_row plane r) (next r) (code r) on (grows r there))
            | inr none ↦ omega (arith, so_far.bound r there, none_more (bit_at_row plane r) (next r) (code r) none (grows r there))
          ];
      each = λ r e.
          let here = so_far.each r e in
          elim (by_bit (bit_at_row plane r)) [
            | inl on ↦ absurd (no_bit (bit_at_row rows r && bit_at_row plane r) (empty r) (in_left r e on))
            | inr none ↦ (here.0, omega (arith, here.1, none_more (bit_at_row plane r) (next r) (code r) none (grows r here.0)))
          ];
      all = λ r there is.
          elim (by_bit (bit_at_row plane r)) [
            | inl on ↦ absurd (omega (arith, is, one_more (bit_at_row plane r) (next r) (code r) on (grows r there)))
            | inr none ↦ so_far.all r there (omega (arith, is, none_more (bit_at_row plane r) (next r) (code r) none (grows r there)))
          ];
      some = so_far.some;
    }

  module _ (so_far : IsLeastSoFar has code number rows) where
    in_rest : (r : ℕ) → bit_at_row rows r ≡ true → bit_at_row plane r ≡ false → (bit_at_row rows r && not (bit_at_row plane r)) ≡ true
    in_rest r a b = ap (λ x. x && not (bit_at_row plane r)) a ∙ ap not b

    pub less_without : (left : List ℕ) → ((r : ℕ) → bit_at_row left r ≡ (bit_at_row rows r && not (bit_at_row plane r))) → (r : ℕ) × ((bit_at_row rows r && not (bit_at_row plane r)) ≡ true) → IsLeastSoFar has next (2 * number) left
    less_without left kept some = record {
      bound = λ r there.
          elim (by_bit (bit_at_row plane r)) [
            | inl on ↦ omega (arith, so_far.bound r there, one_more (bit_at_row plane r) (next r) (code r) on (grows r there))
            | inr none ↦ omega (arith, so_far.bound r there, none_more (bit_at_row plane r) (next r) (code r) none (grows r there))
          ];
      each = λ r e.
          let in_rows = both (bit_at_row rows r) (not (bit_at_row plane r)) (sym (kept r) ∙ e) in
          let here = so_far.each r in_rows.0 in
          (here.0, omega (arith, here.1, none_more (bit_at_row plane r) (next r) (code r) (off (bit_at_row plane r) in_rows.1) (grows r here.0)));
      all = λ r there is.
          elim (by_bit (bit_at_row plane r)) [
            | inl on ↦ absurd (omega (arith, is, one_more (bit_at_row plane r) (next r) (code r) on (grows r there)))
            | inr none ↦ kept r ∙ in_rest r (so_far.all r there (omega (arith, is, none_more (bit_at_row plane r) (next r) (code r) none (grows r there)))) none
          ];
      some = (some.0, kept some.0 ∙ some.1);
    }

    pub less_with : ((r : ℕ) → (bit_at_row rows r && not (bit_at_row plane r)) ≡ false) → IsLeastSoFar has next (2 * number + 1) rows
    less_with empty = record {
      bound = λ r there.
          elim (by_bit (bit_at_row plane r)) [
            | inl on ↦ omega (arith, so_far.bound r there, one_more (bit_at_row plane r) (next r) (code r) on (grows r there))
            | inr none ↦
                let other : code r ≢ number = λ is. no_bit (bit_at_row rows r && not (bit_at_row plane r)) (empty r) (in_rest r (so_far.all r there is) none) in
                omega (arith, other, so_far.bound r there, none_more (bit_at_row plane r) (next r) (code r) none (grows r there))
          ];
      each = λ r e.
          let here = so_far.each r e in
          elim (by_bit (bit_at_row plane r)) [
            | inl on ↦ (here.0, omega (arith, here.1, one_more (bit_at_row plane r) (next r) (code r) on (grows r here.0)))
            | inr none ↦ absurd (no_bit (bit_at_row rows r && not (bit_at_row plane r)) (empty r) (in_rest r e none))
          ];
      all = λ r there is.
          elim (by_bit (bit_at_row plane r)) [
            | inl on ↦ so_far.all r there (omega (arith, is, one_more (bit_at_row plane r) (next r) (code r) on (grows r there)))
            | inr none ↦ absurd (omega (arith, is, none_more (bit_at_row plane r) (next r) (code r) none (grows r there)))
          ];
      some = so_far.some;
    }
