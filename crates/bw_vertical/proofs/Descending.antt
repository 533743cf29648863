-- A descent over the planes of some rows, from the highest bit on: one plane more.
use Rattle.std.proofs.Common.{Bool, List, add-one, ap, arith, cond, false, inl, inr, refl, suc, sym, true, zero, ℕ, ◌%◌, ◌&&◌, ◌*◌, ◌+◌, ◌/◌, ◌<◌, ◌==◌, ◌^◌, ◌≡◌, ◌≢◌, ◌≤◌, ◌∙◌, ◌||◌, ◌⊎◌, not}
use Rattle.std.specs.Int.{bit_at}
use Rattle.std.proofs.Math.Nat.{pow-suc}
use Rattle.std.proofs.lemmas.Bool.{cases_lt}
use Rattle.std.proofs.lemmas.Nat.Bits.{bit_at-suc, bit_at_lowest}
use Rattle.bw_mask.specs.Masks.{bit_of, row_in}
use Rattle.bw_code.specs.Units.{some_below}
use Rattle.bw_code.proofs.Reach.{none_at}
use Rattle.bw_vertical.specs.Descents.{AreCodeEnds, IsGreatestSoFar, IsLeastSoFar}
use Rattle.bw_vertical.specs.declared.code_ends.CodeEnds.{CodeEnds}
use Rattle.bw_vertical.specs.declared.descent.Reached.{Reached}

pub by_bit : (b : Bool) → (b ≡ true) ⊎ (b ≡ false)
by_bit true = inl refl
by_bit false = inr refl

both : (a b : Bool) → (a && b) ≡ true → (a ≡ true) × (b ≡ true)
both true true e = (refl, refl)
both true false e = absurd cc
both false b e = absurd cc

off : (b : Bool) → not b ≡ true → b ≡ false
off true e = absurd cc
off false e = refl

pub not_both : (b : Bool) → b ≡ false → b ≡ true → ⊥
not_both b e on = let no : false ≡ true = sym e ∙ on in absurd cc

-- a number that is not 0 has a bit
pub some_bit : (n w : ℕ) → w < 2 ^ n → w ≢ 0 → (i : ℕ) × (i < n) × (bit_of w i ≡ true)
some_bit zero w small some = absurd (some (omega (arith, small)))
some_bit (suc n) w small some =
    elim (cases_lt (w % 2) 1) [
      | inl even ↦
          let rest : (i : ℕ) × (i < n) × (bit_of (w / 2) i ≡ true) = some_bit n (w / 2) (omega (arith, small)) (λ e. some (omega (arith, e, even))) in
          (suc rest.0, omega (arith, rest.1), ap (λ b. b == 1) (bit_at-suc w rest.0) ∙ rest.2)
      | inr odd ↦
          let low : bit_at w 0 ≡ 1 = bit_at_lowest w ∙ omega (arith, odd) in
          (0, omega arith, ap (λ b. b == 1) low)
    ]

-- where a test holds at some index, it holds at one
pub some_row : (n : ℕ) (test : ℕ → Bool) → some_below n test ≡ true → (r : ℕ) × (r < n) × (test r ≡ true)
unfolding some_below
some_row zero test some = absurd cc
some_row (suc n) test some =
    elim (by_bit (test n)) [
      | inl on ↦ (n, omega arith, on)
      | inr none ↦ (let before = some_row n test (left (some_below n test) (test n) none some) in (before.0, omega (arith, before.1), before.2))
    ]
  where
    left : (a b : Bool) → b ≡ false → (a || b) ≡ true → a ≡ true
    left true b none e = refl
    left false true none e = absurd cc
    left false false none e = absurd cc

-- rows of lanes that are not empty, and of lanes that are
pub row_left : (lanes : List ℕ) → false ≡ not (some_below 256 (row_in lanes)) → (r : ℕ) × (r < 256) × (row_in lanes r ≡ true)
row_left lanes e = some_row 256 (row_in lanes) (turned (some_below 256 (row_in lanes)) e)
  where
    turned : (b : Bool) → false ≡ not b → b ≡ true
    turned true e = refl
    turned false e = absurd cc

pub no_row_left : (lanes : List ℕ) → true ≡ not (some_below 256 (row_in lanes)) → (r : ℕ) → r < 256 → row_in lanes r ≡ false
no_row_left lanes e = none_at 256 (row_in lanes) (off (some_below 256 (row_in lanes)) (sym e))

one_more : (b : Bool) (next code : ℕ) → b ≡ true → next ≡ cond b 1 0 + 2 * code → next ≡ 2 * code + 1
one_more true next code on e = omega (arith, e)
one_more false next code on e = absurd cc

none_more : (b : Bool) (next code : ℕ) → b ≡ false → next ≡ cond b 1 0 + 2 * code → next ≡ 2 * code
none_more true next code none e = absurd cc
none_more false next code none e = omega (arith, e)

module _ (has : ℕ → Bool) (code next : ℕ → ℕ) (plane left : List ℕ) (reached : Reached)
    (grows : (r : ℕ) → r < 256 → has r ≡ true → next r ≡ cond (row_in plane r) 1 0 + 2 * code r) where
  module _ (so_far : IsGreatestSoFar has code reached) (kept : (r : ℕ) → r < 256 → row_in left r ≡ (row_in reached.rows r && row_in plane r)) where
    in_left : (r : ℕ) → r < 256 → row_in reached.rows r ≡ true → row_in plane r ≡ true → row_in left r ≡ true
    in_left r h a b = kept r h ∙ ap (λ x. x && row_in plane r) a ∙ b

    pub greater_with : (r : ℕ) × (r < 256) × (row_in left r ≡ true) → IsGreatestSoFar has next (record { number = 2 * reached.number + 1; rows = left })
    greater_with some = record {
      bound = λ r h there.
          elim (by_bit (row_in plane r)) [
            | inl on ↦ omega (arith, so_far.bound r h there, one_more (row_in plane r) (next r) (code r) on (grows r h there))
            | inr none ↦ omega (arith, so_far.bound r h there, none_more (row_in plane r) (next r) (code r) none (grows r h there))
          ];
      each = λ r h e.
          let in_both = both (row_in reached.rows r) (row_in plane r) (sym (kept r h) ∙ e) in
          let here = so_far.each r h in_both.0 in
          (here.0, omega (arith, here.1, one_more (row_in plane r) (next r) (code r) in_both.1 (grows r h here.0)));
      all = λ r h there is.
          elim (by_bit (row_in plane r)) [
            | inl on ↦ in_left r h (so_far.all r h there (omega (arith, is, one_more (row_in plane r) (next r) (code r) on (grows r h there)))) on
            | inr none ↦ absurd (omega (arith, is, none_more (row_in plane r) (next r) (code r) none (grows r h there)))
          ];
      some = some;
    }

    pub greater_without : ((r : ℕ) → r < 256 → row_in left r ≡ false) → IsGreatestSoFar has next (record { number = 2 * reached.number; rows = reached.rows })
    greater_without empty = record {
      bound = λ r h there.
          elim (by_bit (row_in plane r)) [
            | inl on ↦
                let other : code r ≢ reached.number = λ is. not_both (row_in left r) (empty r h) (in_left r h (so_far.all r h there is) on) in
                omega (arith, other, so_far.bound r h there, one_more (row_in plane r) (next r) (code r) on (grows r h there))
            | inr none ↦ omega (arith, so_far.bound r h there, none_more (row_in plane r) (next r) (code r) none (grows r h there))
          ];
      each = λ r h e.
          let here = so_far.each r h e in
          elim (by_bit (row_in plane r)) [
            | inl on ↦ absurd (not_both (row_in left r) (empty r h) (in_left r h e on))
            | inr none ↦ (here.0, omega (arith, here.1, none_more (row_in plane r) (next r) (code r) none (grows r h here.0)))
          ];
      all = λ r h there is.
          elim (by_bit (row_in plane r)) [
            | inl on ↦ absurd (omega (arith, is, one_more (row_in plane r) (next r) (code r) on (grows r h there)))
            | inr none ↦ so_far.all r h there (omega (arith, is, none_more (row_in plane r) (next r) (code r) none (grows r h there)))
          ];
      some = so_far.some;
    }

  module _ (so_far : IsLeastSoFar has code reached) (kept : (r : ℕ) → r < 256 → row_in left r ≡ (row_in reached.rows r && not (row_in plane r))) where
    in_rest : (r : ℕ) → r < 256 → row_in reached.rows r ≡ true → row_in plane r ≡ false → row_in left r ≡ true
    in_rest r h a b = kept r h ∙ ap (λ x. x && not (row_in plane r)) a ∙ ap not b

    pub less_without : (r : ℕ) × (r < 256) × (row_in left r ≡ true) → IsLeastSoFar has next (record { number = 2 * reached.number; rows = left })
    less_without some = record {
      bound = λ r h there.
          elim (by_bit (row_in plane r)) [
            | inl on ↦ omega (arith, so_far.bound r h there, one_more (row_in plane r) (next r) (code r) on (grows r h there))
            | inr none ↦ omega (arith, so_far.bound r h there, none_more (row_in plane r) (next r) (code r) none (grows r h there))
          ];
      each = λ r h e.
          let in_rows = both (row_in reached.rows r) (not (row_in plane r)) (sym (kept r h) ∙ e) in
          let here = so_far.each r h in_rows.0 in
          (here.0, omega (arith, here.1, none_more (row_in plane r) (next r) (code r) (off (row_in plane r) in_rows.1) (grows r h here.0)));
      all = λ r h there is.
          elim (by_bit (row_in plane r)) [
            | inl on ↦ absurd (omega (arith, is, one_more (row_in plane r) (next r) (code r) on (grows r h there)))
            | inr none ↦ in_rest r h (so_far.all r h there (omega (arith, is, none_more (row_in plane r) (next r) (code r) none (grows r h there)))) none
          ];
      some = some;
    }

    pub less_with : ((r : ℕ) → r < 256 → row_in left r ≡ false) → IsLeastSoFar has next (record { number = 2 * reached.number + 1; rows = reached.rows })
    less_with empty = record {
      bound = λ r h there.
          elim (by_bit (row_in plane r)) [
            | inl on ↦ omega (arith, so_far.bound r h there, one_more (row_in plane r) (next r) (code r) on (grows r h there))
            | inr none ↦
                let other : code r ≢ reached.number = λ is. not_both (row_in left r) (empty r h) (in_rest r h (so_far.all r h there is) none) in
                omega (arith, other, so_far.bound r h there, none_more (row_in plane r) (next r) (code r) none (grows r h there))
          ];
      each = λ r h e.
          let here = so_far.each r h e in
          elim (by_bit (row_in plane r)) [
            | inl on ↦ (here.0, omega (arith, here.1, one_more (row_in plane r) (next r) (code r) on (grows r h here.0)))
            | inr none ↦ absurd (not_both (row_in left r) (empty r h) (in_rest r h e none))
          ];
      all = λ r h there is.
          elim (by_bit (row_in plane r)) [
            | inl on ↦ so_far.all r h there (omega (arith, is, one_more (row_in plane r) (next r) (code r) on (grows r h there)))
            | inr none ↦ absurd (omega (arith, is, none_more (row_in plane r) (next r) (code r) none (grows r h there)))
          ];
      some = so_far.some;
    }

-- the same codes have the same ends
pub same_ends : (has : ℕ → Bool) (code next : ℕ → ℕ) (n : ℕ) (ends : CodeEnds) → ((r : ℕ) → r < n → has r ≡ true → code r ≡ next r) → AreCodeEnds has code n ends → AreCodeEnds has next n ends
same_ends has code next n ends same are = record {
  bounds = λ i h on. let here = are.bounds i h on in (here.0, omega (arith, here.1, same i h on), omega (arith, here.2, same i h on));
  least = λ any. let at = are.least any in (at.0, at.1, at.2, sym (same at.0 at.1 at.2) ∙ at.3);
  greatest = λ any. let at = are.greatest any in (at.0, at.1, at.2, sym (same at.0 at.1 at.2) ∙ at.3);
}

-- a number of p bits, with one bit more at the low end
pub one_bit_more : (p n m : ℕ) → n < 2 ^ p → m ≤ 2 * n + 1 → m < 2 ^ (p + 1)
one_bit_more p n m small grown =
    let power : 2 ^ (p + 1) ≡ 2 ^ p * 2 = ap (λ q. 2 ^ q) (add-one p) ∙ pow-suc 2 p in
    omega (arith, small, grown, power)
