-- Rows of a segment whose distance begins with the bits found so far, one plane further.
use Rattle.std.proofs.Common.{Bool, List, ap, arith, cond, false, get_or, if◌then◌else◌, inl, inr, length, nat_lt, not, pow_pos, refl, subst, sym, true, ℕ, ◌&&◌, ◌*◌, ◌+◌, ◌-◌, ◌/◌, ◌<◌, ◌==◌, ◌^◌, ◌≡◌, ◌≤◌, ◌∙◌}
use Rattle.std.proofs.Math.Nat.{div-eq_of_lt, div-lt_iff_lt-mul, div-one, mul-le-mul_left, pow-le-pow_right}
use Rattle.std.proofs.lemmas.Nat.{le-div}
use Rattle.std.proofs.lemmas.Bool.{cases_eq, cases_lt, true≢false}
use Rattle.std.proofs.lemmas.Bool.Decides.{nat_tests}
use Rattle.std.proofs.lemmas.List.{get_or_past}
use Rattle.std.specs.Prelude.{All}
use Rattle.bw_mask.specs.Masks.{bit_of, row_in}
use Rattle.bw_aggregate.specs.Descents.{front, next}
use Rattle.bw_aggregate.specs.Ends.{IsNearest, MayBeNearer, distance, is_near}
use Rattle.bw_aggregate.specs.Marks.{marked}
use Rattle.bw_aggregate.specs.declared.end.End.{End}
use Rattle.bw_aggregate.proofs.Distances.{distance-more, farther}
use Rattle.bw_aggregate.proofs.LeftRows.{is_some, none_of}
use Rattle.bw_aggregate.proofs.Marks.{marked_same, none_marked}

-- with m planes to go, those that are left begin with the bits found so far, and no row is nearer
pub record AreLeft (rows left : ℕ → Bool) (far : ℕ → ℕ) (m found : ℕ) : Type 0 where
  pub each : (j : ℕ) → j < 256 → left j ≡ (rows j && (front m (far j) == found))
  pub some : 0 < marked 256 left
  pub least : (j : ℕ) → j < 256 → rows j ≡ true → found ≤ front m (far j)

module _ (rows left : ℕ → Bool) (far : ℕ → ℕ) (m found : ℕ) (old : AreLeft rows left far (m + 1) found) (near : ℕ → Bool) (bits : (j : ℕ) → j < 256 → front m (far j) ≡ 2 * front (m + 1) (far j) + cond (near j) 0 1)
    (nearer : ℕ → Bool) (each : (j : ℕ) → j < 256 → nearer j ≡ (left j && near j)) where
  -- where one has no bit in the plane, these are left
  pub go_near : 0 < marked 256 nearer → AreLeft rows nearer far m (next found false)
  go_near some = record {
    each = λ j h. rw (each j h, old.each j h) (by (rows j) (near j) (front m (far j)) (front (m + 1) (far j)) (bits j h));
    some = some;
    least = λ j h t. let before = old.least j h t in let bit = bits j h in omega (arith, before, bit);
  }
    where
      by : (r n : Bool) (x y : ℕ) → x ≡ 2 * y + cond n 0 1 → ((r && (y == found)) && n) ≡ (r && (x == found * 2))
      by true true x y e = grind (arith, nat_tests, e)
      by true false x y e = grind (arith, nat_tests, e)
      by false n x y e = refl

  -- and where each has one, all are left
  pub go_far : marked 256 nearer ≡ 0 → AreLeft rows left far m (next found true)
  go_far none = record {
    each = λ j h. old.each j h ∙ by (rows j) (near j) (front m (far j)) (front (m + 1) (far j)) (bits j h) (has_bit j h);
    some = old.some;
    least = λ j h t. least_by (near j) (front m (far j)) (front (m + 1) (far j)) (old.least j h t) (bits j h) (ap (λ b. (b && (front (m + 1) (far j) == found)) && near j) (sym t) ∙ has_bit j h);
  }
    where
      has_bit : (j : ℕ) → j < 256 → ((rows j && (front (m + 1) (far j) == found)) && near j) ≡ false
      has_bit j h = ap (λ b. b && near j) (sym (old.each j h)) ∙ sym (each j h) ∙ none_marked 256 nearer none j h

      by : (r n : Bool) (x y : ℕ) → x ≡ 2 * y + cond n 0 1 → ((r && (y == found)) && n) ≡ false → (r && (y == found)) ≡ (r && (x == found * 2 + 1))
      by true true x y e d = grind (arith, nat_tests, e, d)
      by true false x y e d = grind (arith, nat_tests, e)
      by false n x y e d = refl

      least_by : (n : Bool) (x y : ℕ) → found ≤ y → x ≡ 2 * y + cond n 0 1 → ((true && (y == found)) && n) ≡ false → found * 2 + 1 ≤ x
      least_by false x y order e d = omega (arith, order, e)
      least_by true x y order e d =
          elim (cases_eq y found) [
            | inl same ↦ let hit : ((true && (y == found)) && true) ≡ true = grind (arith, nat_tests, same) in absurd (true≢false (sym hit ∙ d))
            | inr apart ↦ omega (arith, order, e, apart)
          ]

-- either way
pub one_down : (rows : ℕ → Bool) (left nearer now : List ℕ) (far : ℕ → ℕ) (m found : ℕ) (near : ℕ → Bool) (some : Bool) → AreLeft rows (row_in left) far (m + 1) found
    → ((j : ℕ) → j < 256 → front m (far j) ≡ 2 * front (m + 1) (far j) + cond (near j) 0 1) → ((j : ℕ) → j < 256 → row_in nearer j ≡ (row_in left j && near j))
    → some ≡ nat_lt 0 (marked 256 (row_in nearer)) → now ≡ (if some then nearer else left) → AreLeft rows (row_in now) far m (next found (not some))
one_down rows left nearer now far m found near true old bits each some is =
    rw is (go_near rows (row_in left) far m found old near bits (row_in nearer) each (is_some _ (sym some)))
one_down rows left nearer now far m found near false old bits each some is =
    rw is (go_far rows (row_in left) far m found old near bits (row_in nearer) each (none_of _ (sym some)))

-- above the top plane all are left
pub left_start : (rows : ℕ → Bool) (far : ℕ → ℕ) (k : ℕ) → ((j : ℕ) → far j < 2 ^ k) → 0 < marked 256 rows → AreLeft rows rows far k 0
left_start rows far k small some = record {
  each = λ j h. let none : front k (far j) ≡ 0 = div-eq_of_lt (small j) in rw none (by (rows j));
  some = some;
  least = λ j h t. omega arith;
}
  where
    by : (r : Bool) → r ≡ (r && (0 == 0))
    by true = refl
    by false = refl

-- below the last plane the nearest is found
pub found_nearest : (rows left : ℕ → Bool) (code : ℕ → ℕ) (end : End) (top best found : ℕ) → AreLeft rows left (λ j. distance end top (code j)) 0 found → found ≤ best → IsNearest 256 rows code end top best found
found_nearest rows left code end top best found is order = record {
  upto = order;
  none = λ j h t. omega (arith, is.least j h t, div-one (distance end top (code j)));
  there = λ h.
      let same = marked_same 256 left (λ j. rows j && (distance end top (code j) == found))
      (λ j k. is.each j k ∙ ap (λ x. rows j && (x == found)) (div-one (distance end top (code j)))) in
      omega (arith, same, is.some);
}

-- and before that, where all are farther than what was nearest
pub none_nearer : (rows left : ℕ → Bool) (code : ℕ → ℕ) (end : End) (top best m found : ℕ) → AreLeft rows left (λ j. distance end top (code j)) m found → front m best < found → IsNearest 256 rows code end top best best
none_nearer rows left code end top best m found is less = record {
  upto = omega arith;
  none = λ j h t. farther m best (distance end top (code j)) (omega (arith, less, is.least j h t));
  there = λ h. absurd (omega (arith, h));
}

-- codes of k bits, and 0 past the last
pub code_small : (k : ℕ) (codes : List ℕ) → All (λ c. c < 2 ^ k) codes → (r : ℕ) → get_or codes r 0 < 2 ^ k
code_small k codes all r =
    elim (cases_lt r (length codes)) [
      | inl there ↦ all r 0 there
      | inr past ↦ let none = get_or_past codes r 0 past in omega (arith, none, pow_pos k)
    ]

-- a row that is left was left before, and one that isn't was left out before or is far by its bit
pub still_left : (left near : Bool) → (left && near) ≡ true → left ≡ true
still_left true near e = refl
still_left false near e = absurd (true≢false (sym e))

pub left_out : (left near : Bool) (best far : ℕ) → (left ≡ false → best ≤ far) → (near ≡ false → best ≤ far) → (left && near) ≡ false → best ≤ far
left_out true true best far before here e = absurd (true≢false e)
left_out true false best far before here e = here refl
left_out false near best far before here e = before refl

-- a number whose highest bits are none is small, and one with a bit is not
below_first : (m x : ℕ) → front m x ≡ 0 → x < 2 ^ m
below_first m x none =
    elim (cases_lt x (2 ^ m)) [
      | inl under ↦ under
      | inr over ↦ let some : 1 ≤ front m x = le-div 1 x (2 ^ m) (pow_pos m) (omega (arith, over)) in absurd (omega (arith, some, none))
    ]

from_first : (m x : ℕ) → 0 < front m x → 2 ^ m ≤ x
from_first m x some =
    elim (cases_lt x (2 ^ m)) [
      | inl under ↦ let none : front m x ≡ 0 = div-eq_of_lt under in absurd (omega (arith, some, none))
      | inr over ↦ over
    ]

-- all rows may be near to an end
pub all_near : (k : ℕ) (rows : ℕ → Bool) (code : ℕ → ℕ) (end : End) (top : ℕ) → MayBeNearer rows rows code end top (2 ^ (k - 0))
all_near k rows code end top = record { within = λ j h t. t; out = λ j h r t. absurd (true≢false (sym r ∙ t)) }

-- one plane more leaves those that have no bit of their distance in it
pub nearer_left : (k i : ℕ) (rows left now near : ℕ → Bool) (code : ℕ → ℕ) (end : End) → i < k → ((j : ℕ) → code j < 2 ^ k)
    → ((j : ℕ) → j < 256 → near j ≡ is_near end (bit_of (code j) (k - 1 - i))) → ((j : ℕ) → j < 256 → now j ≡ (left j && near j))
    → MayBeNearer rows left code end (2 ^ k - 1) (2 ^ (k - i)) → MayBeNearer rows now code end (2 ^ k - 1) (2 ^ (k - (i + 1)))
nearer_left k i rows left now near code end within small bits each old = record {
  within = λ j h t. old.within j h (still_left (left j) (near j) (sym (each j h) ∙ t));
  out = λ j h r t.
      left_out (left j) (near j) (2 ^ (k - (i + 1))) (distance end (2 ^ k - 1) (code j)) (λ gone. before j (old.out j h r gone)) (λ no_bit. here j h no_bit) (sym (each j h) ∙ t);
}
  where
    before : (j : ℕ) → 2 ^ (k - i) ≤ distance end (2 ^ k - 1) (code j) → 2 ^ (k - (i + 1)) ≤ distance end (2 ^ k - 1) (code j)
    before j far =
        let less : 2 ^ (k - (i + 1)) ≤ 2 ^ (k - i) = pow-le-pow_right {n = 2} (omega arith) {i = k - (i + 1)} {j = k - i} (omega arith) in
        omega (arith, less, far)

    here : (j : ℕ) → j < 256 → near j ≡ false → 2 ^ (k - (i + 1)) ≤ distance end (2 ^ k - 1) (code j)
    here j h no_bit =
        let p = k - 1 - i in
        let place : p ≡ k - (i + 1) = omega arith in
        let more = distance-more end k p (code j) (omega (arith, within)) (small j) in
        let one : ◌≡◌ {A = ℕ} (cond (is_near end (bit_of (code j) p)) 0 1) 1 = ap (λ b. cond {A = ℕ} b 0 1) (sym (bits j h) ∙ no_bit) in
        subst (λ n. 2 ^ n ≤ distance end (2 ^ k - 1) (code j)) place (from_first p (distance end (2 ^ k - 1) (code j)) (omega (arith, more, one)))

-- those that are not left are no nearer than what has no bit so high
pub left_near : (m : ℕ) (rows left : ℕ → Bool) (code : ℕ → ℕ) (end : End) (top best : ℕ) → MayBeNearer rows left code end top (2 ^ m) → front m best ≡ 0 → MayBeNearer rows left code end top best
left_near m rows left code end top best near none = record {
  within = near.within;
  out = λ j h r t. omega (arith, below_first m best none, near.out j h r t);
}

-- the first bits of a word, without the last one at least
pub small_front : (best found k : ℕ) → best < 2 ^ 64 → 1 ≤ k → found ≤ front k best → found < 2 ^ 63
small_front best found k fits some few =
    let two : 2 ^ 1 ≤ 2 ^ k = pow-le-pow_right {n = 2} (omega arith) {i = 1} {j = k} some in
    let most : 2 ^ 63 * 2 ^ 1 ≤ 2 ^ 63 * 2 ^ k = mul-le-mul_left (2 ^ 63) two in
    let low : best / 2 ^ k < 2 ^ 63 = (div-lt_iff_lt-mul {k = 2 ^ k} {x = best} {y = 2 ^ 63} (pow_pos k)).1 (omega (arith, fits, most)) in
    omega (arith, few, low)
