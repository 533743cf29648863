-- The ends of the codes of a block of rows, by a descent over the bytes of their planes.
use Rattle.std.proofs.Common.{cond, suc, zero, take, drop, ◌-◌, ◌^◌, ◌⊎◌, mul_assoc, pow-suc, div-mul-le_self, mul-le-mul_right, Bool, List, ap, arith, false, inl, inr, length, refl, slice_index, sym, true, ℕ, ◌%◌, ◌*◌, ◌+◌, ◌/◌, ◌<◌, ◌==◌, ◌≡◌, ◌≤◌, ◌∙◌}
use Rattle.std.proofs.Math.Nat.{lt-div-mul-add}
use Rattle.std.proofs.lemmas.Bool.{cases_lt}
use Rattle.std.proofs.lemmas.Nat.{pow_pos}
use Rattle.bw_mask.specs.Masks.{bit_of}
use Rattle.bw_vertical.proofs.Numbers.{bit_most, number, number_lt, number_more}
use Rattle.bw_vertical.specs.Descents.{AreCodeEnds}
use Rattle.bw_vertical.specs.declared.code_ends.CodeEnds.{CodeEnds}
use Rattle.bw_file.specs.Descents.{bit_at_row, IsGreatestSoFar, IsLeastSoFar}
use Rattle.bw_file.specs.Planes.{plane_bit}
use Rattle.bw_file.proofs.RowBytes.{cut_bits, past_row}

not_there : (b : Bool) → b ≡ false → b ≡ true → ⊥
not_there b e on = let no : false ≡ true = sym e ∙ on in absurd cc

-- rows that are there are among the first
row_below : (has : ℕ → Bool) (n : ℕ) → ((r : ℕ) → n ≤ r → has r ≡ false) → (r : ℕ) → has r ≡ true → r < n
row_below has n within r on =
    elim (cases_lt r n) [
      | inl low ↦ low
      | inr past ↦ absurd (not_there (has r) (within r past) on)
    ]

-- the ends of all rows, of which those past the first have no code
pub first_rows : (has : ℕ → Bool) (code : ℕ → ℕ) (n m : ℕ) (ends : CodeEnds) → n ≤ m → ((r : ℕ) → n ≤ r → has r ≡ false) → AreCodeEnds has code m ends → AreCodeEnds has code n ends
first_rows has code n m ends most within are = record {
  bounds = λ i h on. are.bounds i (omega (arith, h, most)) on;
  least = λ any. let at = are.least any in (at.0, row_below has n within at.0 at.2, at.2, at.3);
  greatest = λ any. let at = are.greatest any in (at.0, row_below has n within at.0 at.2, at.2, at.3);
}

-- the bit of a row in a plane, and in the plane's bytes from the block's first on
block_bit : (size p from r : ℕ) (planes : List ℕ) → bit_at_row planes (8 * (p * size + from) + r) ≡ (plane_bit size planes p (8 * from + r) == 1)
block_bit size p from r planes =
    let byte : (8 * (p * size + from) + r) / 8 ≡ p * size + (8 * from + r) / 8 = omega arith in
    let place : (8 * (p * size + from) + r) % 8 ≡ (8 * from + r) % 8 = omega arith in
    ap (λ j. bit_of (slice_index planes j) ((8 * (p * size + from) + r) % 8)) byte ∙ ap (bit_of (slice_index planes (p * size + (8 * from + r) / 8))) place

module _ (there : List ℕ) (long : length there ≡ 512) where
  pub block_row : (r : ℕ) → bit_at_row there r ≡ true → r < 4096
  block_row = row_below (bit_at_row there) 4096 (λ r past. past_row 512 there long r (omega (arith, past)))

  -- the byte of a row that is there, of rows that end with the planes
  pub row_in : (size from : ℕ) → ((r : ℕ) → size ≤ from + r / 8 → bit_at_row there r ≡ false) → (r : ℕ) → bit_at_row there r ≡ true → (r / 8 < 512) × (from + r / 8 < size)
  row_in size from within r on =
      let low = block_row r on in
      elim (cases_lt (from + r / 8) size) [
        | inl inside ↦ (omega (arith, low), inside)
        | inr past ↦ absurd (not_there (bit_at_row there r) (within r past) on)
      ]

-- a row's number with one plane more, of which the block's bytes are cut out
pub plane_grows : (size p from n m : ℕ) (planes : List ℕ) → n ≤ m → (r : ℕ) → r / 8 < n
    → number (λ q. plane_bit size planes q (8 * from + r) == 1) (p + 1) ≡ cond (bit_at_row (take m (drop (p * size + from) planes)) r) 1 0 + 2 * number (λ q. plane_bit size planes q (8 * from + r) == 1) p
plane_grows size p from n m planes most r low =
    let F = λ (q : ℕ). plane_bit size planes q (8 * from + r) == 1 in
    number_more F p ∙ ap (λ b. cond b 1 0 + 2 * number (λ q. plane_bit size planes q (8 * from + r) == 1) p) (sym (cut_bits planes (p * size + from) n m most r low ∙ block_bit size p from r planes))

-- a number by the one that its first bits make
module _ (F : ℕ → Bool) where
  longer : (a m : ℕ) → number F (a + suc m) ≡ cond (F (a + m)) 1 0 + 2 * number F (a + m)
  longer a m = let e : a + suc m ≡ a + m + 1 = omega arith in ap (number F) e ∙ number_more F (a + m)

  twice : (x m : ℕ) → x * 2 ^ suc m ≡ x * 2 ^ m * 2
  twice x m = ap (λ y. x * y) (pow-suc 2 m) ∙ sym (mul_assoc x (2 ^ m) 2)

  no_longer : (a : ℕ) → number F (a + 0) ≡ number F a
  no_longer a = let e : a + 0 ≡ a = omega arith in ap (number F) e

  at_least : (a m : ℕ) → number F a * 2 ^ m ≤ number F (a + m)
  at_least a zero = omega (arith, no_longer a)
  at_least a (suc m) = omega (arith, at_least a m, longer a m, twice (number F a) m)

  below : (a m : ℕ) → number F (a + m) < (number F a + 1) * 2 ^ m
  below a zero = omega (arith, no_longer a)
  below a (suc m) = omega (arith, below a m, longer a m, twice (number F a + 1) m, bit_most (F (a + m)))

  -- numbers of k bits, by those of the first p + 1
  module _ (p k best reached : ℕ) (within : p < k) where
    whole : number F (p + 1 + (k - 1 - p)) ≡ number F k
    whole = let e : p + 1 + (k - 1 - p) ≡ k = omega (arith, within) in ap (number F) e

    pub not_less : reached ≤ number F (p + 1) → best / 2 ^ (k - 1 - p) < reached → best ≤ number F k
    not_less bound more =
        let q : ℕ = 2 ^ (k - 1 - p) in
        let parts : best < best / q * q + q = lt-div-mul-add {a = best} {b = q} (pow_pos (k - 1 - p)) in
        let most : (best / q + 1) * q ≤ number F (p + 1) * q = mul-le-mul_right {m = best / q + 1} {n = number F (p + 1)} q (omega (arith, bound, more)) in
        omega (arith, parts, most, at_least (p + 1) (k - 1 - p), whole)

    pub not_greater : number F (p + 1) ≤ reached → reached < best / 2 ^ (k - 1 - p) → number F k ≤ best
    not_greater bound less =
        let q : ℕ = 2 ^ (k - 1 - p) in
        let most : (number F (p + 1) + 1) * q ≤ best / q * q = mul-le-mul_right {m = number F (p + 1) + 1} {n = best / q} q (omega (arith, bound, less)) in
        omega (arith, div-mul-le_self best q, most, below (p + 1) (k - 1 - p), whole)

-- before the first plane each number is 0
module _ (there : List ℕ) (F : ℕ → ℕ → Bool) (some : (r : ℕ) × (bit_at_row there r ≡ true)) where
  none_yet : (r : ℕ) → number (F r) 0 ≡ 0
  none_yet r = omega (arith, number_lt (F r) 0)

  pub least_first : IsLeastSoFar (bit_at_row there) (λ r. number (F r) 0) 0 there
  least_first = record {
    bound = λ r on. omega arith;
    each = λ r on. (on, none_yet r);
    all = λ r on is. on;
    some = some;
  }

  pub greatest_first : IsGreatestSoFar (bit_at_row there) (λ r. number (F r) 0) 0 there
  greatest_first = record {
    bound = λ r on. omega (arith, none_yet r);
    each = λ r on. (on, none_yet r);
    all = λ r on is. on;
    some = some;
  }

by_bool : (b : Bool) → (b ≡ true) ⊎ (b ≡ false)
by_bool true = inl refl
by_bool false = inr refl

-- the ends of some codes, and of those of the rows after theirs
module _ (has f : ℕ → Bool) (code g : ℕ → ℕ) (n m : ℕ) (bits : (r : ℕ) → r < m → has (n + r) ≡ f r) (codes : (r : ℕ) → r < m → code (n + r) ≡ g r) (ends : CodeEnds) (first : AreCodeEnds has code n ends) where
  place : (i : ℕ) → n ≤ i → n + (i - n) ≡ i
  place i h = omega (arith, h)

  on_block : (i : ℕ) → n ≤ i → i < n + m → has i ≡ true → f (i - n) ≡ true
  on_block i low high on = sym (bits (i - n) (omega (arith, low, high))) ∙ ap has (place i low) ∙ on

  of_block : (i : ℕ) → n ≤ i → i < n + m → g (i - n) ≡ code i
  of_block i low high = sym (codes (i - n) (omega (arith, low, high))) ∙ ap code (place i low)

  -- where none of these has one
  pub no_more : ((r : ℕ) → f r ≡ false) → AreCodeEnds has code (n + m) ends
  no_more none = record {
    bounds = λ i h on.
        elim (cases_lt i n) [
          | inl low ↦ first.bounds i low on
          | inr past ↦ absurd (not_there (f (i - n)) (none (i - n)) (on_block i past h on))
        ];
    least = λ any. let at = first.least any in (at.0, omega (arith, at.1), at.2, at.3);
    greatest = λ any. let at = first.greatest any in (at.0, omega (arith, at.1), at.2, at.3);
  }

  module _ (some : (r : ℕ) × (r < m) × (f r ≡ true)) (fits : (r : ℕ) → g r < 2 ^ 64) (low high low' high' : ℕ)
      (low_is : (ends.any ≡ true → low ≡ ends.least) × (ends.any ≡ false → low ≡ 2 ^ 64 - 1)) (high_is : (ends.any ≡ true → high ≡ ends.greatest) × (ends.any ≡ false → high ≡ 0))
      (most : low' ≤ low) (bound : (r : ℕ) → f r ≡ true → low' ≤ g r) (reached : low' < low → (r : ℕ) × (r < m) × (f r ≡ true) × (g r ≡ low'))
      (most' : high ≤ high') (bound' : (r : ℕ) → f r ≡ true → g r ≤ high') (reached' : high < high' → (r : ℕ) × (r < m) × (f r ≡ true) × (g r ≡ high')) where
    pub with_more : AreCodeEnds has code (n + m) (record { any = true; least = low'; greatest = high' })
    with_more = record {
      bounds = λ i h on.
          elim (cases_lt i n) [
            | inl before ↦ (let here = first.bounds i before on in (refl, omega (arith, here.1, low_is.0 here.0, most), omega (arith, here.2, high_is.0 here.0, most')))
            | inr past ↦ (let there = on_block i past h on in (refl, omega (arith, bound (i - n) there, of_block i past h), omega (arith, bound' (i - n) there, of_block i past h)))
          ];
      least = λ any.
          elim (cases_lt low' low) [
            | inl less ↦ (let at = reached less in (n + at.0, omega (arith, at.1), bits at.0 at.1 ∙ at.2, codes at.0 at.1 ∙ at.3))
            | inr same ↦
                elim (by_bool ends.any) [
                  | inl there ↦ (let at = first.least there in (at.0, omega (arith, at.1), at.2, omega (arith, at.3, low_is.0 there, most, same)))
                  | inr none ↦ (n + some.0, omega (arith, some.1), bits some.0 some.1 ∙ some.2, omega (arith, codes some.0 some.1, fits some.0, bound some.0 some.2, low_is.1 none, same))
                ]
          ];
      greatest = λ any.
          elim (cases_lt high high') [
            | inl more ↦ (let at = reached' more in (n + at.0, omega (arith, at.1), bits at.0 at.1 ∙ at.2, codes at.0 at.1 ∙ at.3))
            | inr same ↦
                elim (by_bool ends.any) [
                  | inl there ↦ (let at = first.greatest there in (at.0, omega (arith, at.1), at.2, omega (arith, at.3, high_is.0 there, most', same)))
                  | inr none ↦ (n + some.0, omega (arith, some.1), bits some.0 some.1 ∙ some.2, omega (arith, codes some.0 some.1, bound' some.0 some.2, high_is.1 none, same))
                ]
          ];
    }
