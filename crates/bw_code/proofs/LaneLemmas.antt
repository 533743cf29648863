-- What 64 lanes say of the codes in them.
use Rattle.std.proofs.Common.{Bool, List, ap, arith, bit_and, cond, false, get_or, inl, inr, leb, length, map, not, refl, replicate, take, true, w32, w64, ℕ, ◌%◌, ◌&&◌, ◌*◌, ◌+◌, ◌-◌, ◌<◌, ◌==◌, ◌^◌, ◌≡◌, ◌≤◌, ◌∙◌}
use Rattle.std.specs.Int.{bit_at}
use Rattle.std.proofs.Math.Nat.{one-le-pow}
use Rattle.std.proofs.Math.Pow.{pow_mono}
use Rattle.std.proofs.lemmas.Bool.{cases_lt}
use Rattle.std.proofs.lemmas.Bool.Decides.{nat_tests}
use Rattle.std.proofs.lemmas.List.{get_or-take, get_or_past, length-replicate, length-take}
use Rattle.std.proofs.lemmas.Nat.Bits.{and_pow, bit_at-lt}
use Rattle.std.proofs.lemmas.Simd.{bit_mask_l, get_or-replicate, get_or-zip2, length-zip2, mask_l-mod, tops_compared}
use lib.Lanes.{mask_l, top, zip2}
use mir.Syntax.{Width}
use mir.Val.{bits, hbits}
use Rattle.bw_mask.specs.Masks.{bit_of}

one_bit : (b : Bool) → (cond b 1 0 == 1) ≡ b
one_bit true = refl
one_bit false = refl

pub lane_bit : (w : Width) (test : ℕ → ℕ → Bool) (xs ys : List ℕ) (i : ℕ) → length xs ≡ 64 → length ys ≡ 64 → i < 64
    → bit_of (mask_l (map (top (hbits w)) (zip2 (λ a b. cond (test a b) (2 ^ bits w - 1) 0) xs ys)) % 2 ^ 64) i ≡ test (get_or xs i 0) (get_or ys i 0)
lane_bit w test xs ys i e f h =
    let long : length (zip2 test xs ys) ≤ 64 = omega (arith, length-zip2 test xs ys, e, f) in
    ap (λ ms. bit_of (mask_l ms % 2 ^ 64) i) (tops_compared w test xs ys) ∙ ap (λ m. bit_of m i) (mask_l-mod (zip2 test xs ys) 64 long)
    ∙ ap (λ x. x == 1) (bit_mask_l (zip2 test xs ys) i) ∙ one_bit (get_or (zip2 test xs ys) i false)
    ∙ get_or-zip2 test xs ys i 0 0 false (omega arith) (omega arith)

-- a lane of the first 64 codes with the same number in each
module _ (f : ℕ → ℕ → ℕ) (xs : List ℕ) (y : ℕ) (long : 64 ≤ length xs) where
  first : length (take 64 xs) ≡ 64
  first = omega (arith, length-take 64 xs)

  pub lanes_with : length (zip2 f (take 64 xs) (replicate 64 y)) ≡ 64
  lanes_with = length-zip2 f (take 64 xs) (replicate 64 y) (first ∙ refl) ∙ first

  pub lane_with : (i : ℕ) → i < 64 → get_or (zip2 f (take 64 xs) (replicate 64 y)) i 0 ≡ f (get_or xs i 0) y
  lane_with i h =
      get_or-zip2 f (take 64 xs) (replicate 64 y) i 0 0 0 (omega (arith, first)) (omega (arith, length-replicate {A = ℕ} 64 y))
      ∙ ap (λ x. f x (get_or (replicate 64 y) i 0)) (get_or-take 64 xs i 0 h) ∙ ap (f (get_or xs i 0)) (get_or-replicate 64 i y 0 h)

-- the first 64 codes of two lists, lane by lane
pub both_firsts : (test : ℕ → ℕ → Bool) (xs ys : List ℕ) (i : ℕ) → 64 ≤ length xs → 64 ≤ length ys → i < 64
    → bit_of (mask_l (map (top (hbits w32)) (zip2 (λ a b. cond (test a b) (2 ^ bits w32 - 1) 0) (take 64 xs) (take 64 ys))) % 2 ^ 64) i ≡ test (get_or xs i 0) (get_or ys i 0)
both_firsts test xs ys i long other h =
    let x_first : length (take 64 xs) ≡ 64 = omega (arith, length-take 64 xs) in
    let y_first : length (take 64 ys) ≡ 64 = omega (arith, length-take 64 ys) in
    lane_bit w32 test (take 64 xs) (take 64 ys) i x_first y_first h
    ∙ ap (λ x. test x (get_or (take 64 ys) i 0)) (get_or-take 64 xs i 0 h) ∙ ap (test (get_or xs i 0)) (get_or-take 64 ys i 0 h)

-- a code moved down by `low`, so that those below it come to stand above all others
pub moved_down : (x low span : ℕ) → x < 2 ^ 32 → low + span < 2 ^ 32 → leb ((x + (2 ^ 32 - low)) % 2 ^ 32) span ≡ (leb low x && leb x (low + span))
moved_down x low span h l =
    elim (cases_lt x low) [
      | inl p ↦ let here : (x + (2 ^ 32 - low)) % 2 ^ 32 ≡ x + (2 ^ 32 - low) = omega arith in rw here (grind (arith, nat_tests))
      | inr p ↦ let here : (x + (2 ^ 32 - low)) % 2 ^ 32 ≡ x - low = omega arith in rw here (grind (arith, nat_tests))
    ]

-- the same of 64 bits
pub both_firsts_64 : (test : ℕ → ℕ → Bool) (xs ys : List ℕ) (i : ℕ) → 64 ≤ length xs → 64 ≤ length ys → i < 64
    → bit_of (mask_l (map (top (hbits w64)) (zip2 (λ a b. cond (test a b) (2 ^ bits w64 - 1) 0) (take 64 xs) (take 64 ys))) % 2 ^ 64) i ≡ test (get_or xs i 0) (get_or ys i 0)
both_firsts_64 test xs ys i long other h =
    let x_first : length (take 64 xs) ≡ 64 = omega (arith, length-take 64 xs) in
    let y_first : length (take 64 ys) ≡ 64 = omega (arith, length-take 64 ys) in
    lane_bit w64 test (take 64 xs) (take 64 ys) i x_first y_first h
    ∙ ap (λ x. test x (get_or (take 64 ys) i 0)) (get_or-take 64 xs i 0 h) ∙ ap (test (get_or xs i 0)) (get_or-take 64 ys i 0 h)

pub moved_down_64 : (x low span : ℕ) → x < 2 ^ 64 → low + span < 2 ^ 64 → leb ((x + (2 ^ 64 - low)) % 2 ^ 64) span ≡ (leb low x && leb x (low + span))
moved_down_64 x low span h l =
    elim (cases_lt x low) [
      | inl p ↦ let here : (x + (2 ^ 64 - low)) % 2 ^ 64 ≡ x + (2 ^ 64 - low) = omega arith in rw here (grind (arith, nat_tests))
      | inr p ↦ let here : (x + (2 ^ 64 - low)) % 2 ^ 64 ≡ x - low = omega arith in rw here (grind (arith, nat_tests))
    ]

-- the test `x & (1 << i) != 0`
pub bit_tested : (x i : ℕ) → not (bit_and x (2 ^ i) == 0) ≡ bit_of x i
bit_tested x i = ap (λ y. not (y == 0)) (and_pow x i) ∙ by_bit (bit_at x i) (bit_at-lt x i)
  where
    by_bit : (b : ℕ) → b < 2 → not (b * 2 ^ i == 0) ≡ (b == 1)
    by_bit b h = let some = one-le-pow i 2 (omega arith) in grind (arith, nat_tests, some)

pub one_moved : (i : ℕ) → i < 32 → 1 * 2 ^ i % 2 ^ 32 ≡ 2 ^ i
one_moved i h = let low = pow_below i h in omega arith
  where
    pow_below : (j : ℕ) → j < 32 → 2 ^ j < 2 ^ 32
    pow_below j p = omega (arith, pow_mono {i = j} {j = 31} (omega arith))

pub one_moved_64 : (i : ℕ) → i < 64 → 1 * 2 ^ i % 2 ^ 64 ≡ 2 ^ i
one_moved_64 i h = let low = pow_below i h in omega arith
  where
    pow_below : (j : ℕ) → j < 64 → 2 ^ j < 2 ^ 64
    pow_below j p = omega (arith, pow_mono {i = j} {j = 63} (omega arith))

pub zeros : (n i : ℕ) → get_or {A = ℕ} (replicate n 0) i 0 ≡ 0
zeros n i =
    elim (cases_lt i n) [
      | inl h ↦ get_or-replicate n i 0 0 h
      | inr h ↦ get_or_past (replicate n 0) i 0 (omega (arith, length-replicate {A = ℕ} n 0))
    ]
