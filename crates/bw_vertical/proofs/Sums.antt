-- Sums compared bit by bit from the lowest up.
use Rattle.std.proofs.Common.{Bool, List, [], ap, arith, false, get_or, inl, inr, if◌then◌else◌, length, min, nat_eq, nat_le, nat_lt, not, pow_pos, refl, suc, sym, true, zero, ℕ, ◌%◌, ◌&&◌, ◌*◌, ◌+◌, ◌-◌, ◌/◌, ◌<◌, ◌==◌, ◌^◌, ◌||◌, ◌≡◌, ◌≤◌, ◌∙◌}
use Rattle.std.specs.Int.{bit_at}
use Rattle.std.specs.List.{list_any}
use native.Mathlib.Nat.{mod-eq_of_lt}
use Rattle.std.proofs.Math.Nat.{add-mul-div_left, div-lt_iff_lt-mul}
use Rattle.std.proofs.lemmas.Bool.{cases_lt}
use Rattle.std.proofs.lemmas.Bool.Decides.{nat_tests}
use Rattle.std.proofs.lemmas.List.{get_or_default}
use Rattle.std.proofs.lemmas.List.Folds.{list_any_none}
use Rattle.std.proofs.lemmas.Nat.Bits.{bit_at-lt, bit_at_above}
use Rattle.bw_mask.specs.Masks.{bit_of, row_in}
use Rattle.bw_code.proofs.Reach.{none_at}
use Rattle.bw_code.specs.Choosing.{by_masks}
use Rattle.bw_code.specs.Tests.{code_compares}
use Rattle.bw_code.specs.Units.{some_below}
use Rattle.bw_code.specs.declared.compare.CmpOp.{CmpOp}
use Rattle.bw_code.specs.declared.compare.CmpOp.TheVariants.{Eq, Ne, Lt, Le, Gt, Ge}
use Rattle.bw_vertical.specs.Planes.{code_in, in_plane}
use Rattle.bw_vertical.specs.Carries.{AreCompared, carried}
use Rattle.bw_vertical.proofs.Adding.{carry_more, low, sum_bit}
use Rattle.bw_vertical.proofs.Numbers.{number_bit}
use Rattle.bw_vertical.proofs.Planes.{code_lt}

-- two numbers by their lower parts and one digit each above them
lt_by_digits : (p a b u v : ℕ) → u < p → v < p → a < 2 → b < 2 → nat_lt (u + p * a) (v + p * b) ≡ (if a == 1 then (b == 1 && nat_lt u v) else (b == 1 || nat_lt u v))
lt_by_digits p zero zero u v g h k l = grind (arith, nat_tests)
lt_by_digits p zero (suc zero) u v g h k l = grind (arith, nat_tests)
lt_by_digits p (suc zero) zero u v g h k l = grind (arith, nat_tests)
lt_by_digits p (suc zero) (suc zero) u v g h k l = grind (arith, nat_tests)
lt_by_digits p (suc (suc a)) b u v g h k l = absurd (omega arith)
lt_by_digits p a (suc (suc b)) u v g h k l = absurd (omega arith)

-- whether a row is in both planes or in neither
abbrev pub alike : Bool → Bool → Bool
alike a b = if a then b else not b

differ_by_digits : (p a b u v : ℕ) → u < p → v < p → a < 2 → b < 2 → not (u + p * a == v + p * b) ≡ (not (u == v) || not (alike (a == 1) (b == 1)))
differ_by_digits p zero zero u v g h k l = grind (arith, nat_tests)
differ_by_digits p zero (suc zero) u v g h k l = grind (arith, nat_tests)
differ_by_digits p (suc zero) zero u v g h k l = grind (arith, nat_tests)
differ_by_digits p (suc zero) (suc zero) u v g h k l = grind (arith, nat_tests)
differ_by_digits p (suc (suc a)) b u v g h k l = absurd (omega arith)
differ_by_digits p a (suc (suc b)) u v g h k l = absurd (omega arith)

low_part : (x n : ℕ) → x % 2 ^ n < 2 ^ n
low_part x n = let some = pow_pos n in omega arith

-- the parts of n + 1 bits of two numbers, by those of n bits and one bit each
pub lt_more : (x y n : ℕ) → nat_lt (x % 2 ^ (n + 1)) (y % 2 ^ (n + 1)) ≡ (if bit_of x n then (bit_of y n && nat_lt (x % 2 ^ n) (y % 2 ^ n)) else (bit_of y n || nat_lt (x % 2 ^ n) (y % 2 ^ n)))
lt_more x y n = rw (low n x, low n y) (lt_by_digits (2 ^ n) (bit_at x n) (bit_at y n) (x % 2 ^ n) (y % 2 ^ n) (low_part x n) (low_part y n) (bit_at-lt x n) (bit_at-lt y n))

pub differ_more : (x y n : ℕ) → not (x % 2 ^ (n + 1) == y % 2 ^ (n + 1)) ≡ (not (x % 2 ^ n == y % 2 ^ n) || not (alike (bit_of x n) (bit_of y n)))
differ_more x y n = rw (low n x, low n y) (differ_by_digits (2 ^ n) (bit_at x n) (bit_at y n) (x % 2 ^ n) (y % 2 ^ n) (low_part x n) (low_part y n) (bit_at-lt x n) (bit_at-lt y n))

-- how many planes of k are read by the n-th
pub min_more : (n k : ℕ) → min (n + 1) k ≡ min n k + (if nat_lt n k then 1 else 0)
min_more n k = grind (arith, nat_tests)

-- bit n of a code, from its plane
pub plane_bit : (k q n j : ℕ) (units : List (List ℕ)) → j < 256 → n < k → row_in (get_or units (q * k + (k - 1 - n)) []) j ≡ bit_of (code_in k units (256 * q + j)) n
plane_bit k q n j units h l =
    let F = λ (i : ℕ). in_plane k units i (256 * q + j) in
    let back : k - 1 - (k - 1 - n) ≡ n = omega (arith, l) in
    let segment : (256 * q + j) / 256 ≡ q = omega (arith, h) in
    let row : (256 * q + j) % 256 ≡ j = omega (arith, h) in
    let here : row_in (get_or units (q * k + (k - 1 - n)) []) j ≡ F (k - 1 - n) = rw (segment, row) refl in
    here ∙ sym (number_bit F k (k - 1 - n) (omega (arith, l))) ∙ ap (bit_of (code_in k units (256 * q + j))) back

-- above its highest plane a code has no bit
pub no_bit : (k n j : ℕ) (units : List (List ℕ)) → k ≤ n → bit_of (code_in k units j) n ≡ false
no_bit k n j units h = let none = bit_at_above (code_in k units j) k n (code_lt k units j) h in rw none refl

carried_lt : (x y n : ℕ) → carried x y n < 2
carried_lt x y n =
    let p = 2 ^ n in
    let sum : x % p + y % p < p * 2 = omega (arith, low_part x n, low_part y n) in
    (div-lt_iff_lt-mul {k = p} {x = x % p + y % p} {y = 2} (pow_pos n)).1 (omega (arith, sum))

sum_cases : (a b c : ℕ) → a < 2 → b < 2 → c < 2 → (if a == 1 then (if b == 1 then c == 1 else not (c == 1)) else (if b == 1 then not (c == 1) else c == 1)) ≡ ((a + b + c) % 2 == 1)
sum_cases zero zero zero h k l = refl
sum_cases zero zero (suc zero) h k l = refl
sum_cases zero (suc zero) zero h k l = refl
sum_cases zero (suc zero) (suc zero) h k l = refl
sum_cases (suc zero) zero zero h k l = refl
sum_cases (suc zero) zero (suc zero) h k l = refl
sum_cases (suc zero) (suc zero) zero h k l = refl
sum_cases (suc zero) (suc zero) (suc zero) h k l = refl
sum_cases (suc (suc a)) b c h k l = absurd (omega arith)
sum_cases a (suc (suc b)) c h k l = absurd (omega arith)
sum_cases a b (suc (suc c)) h k l = absurd (omega arith)

carry_cases : (a b c : ℕ) → a < 2 → b < 2 → c < 2 → (if b == 1 then (a == 1 || c == 1) else (a == 1 && c == 1)) ≡ ((a + b + c) / 2 == 1)
carry_cases zero zero zero h k l = refl
carry_cases zero zero (suc zero) h k l = refl
carry_cases zero (suc zero) zero h k l = refl
carry_cases zero (suc zero) (suc zero) h k l = refl
carry_cases (suc zero) zero zero h k l = refl
carry_cases (suc zero) zero (suc zero) h k l = refl
carry_cases (suc zero) (suc zero) zero h k l = refl
carry_cases (suc zero) (suc zero) (suc zero) h k l = refl
carry_cases (suc (suc a)) b c h k l = absurd (omega arith)
carry_cases a (suc (suc b)) c h k l = absurd (omega arith)
carry_cases a b (suc (suc c)) h k l = absurd (omega arith)

-- one bit of a sum by those of the numbers and what is carried
pub sum_row : (p b c : Bool) (x y n : ℕ) → p ≡ bit_of x n → b ≡ bit_of y n → c ≡ (carried x y n == 1)
    → (if p then (if b then c else not c) else (if b then not c else c)) ≡ bit_of (x + y) n
sum_row p b c x y n e f g = rw (e, f, g, sum_bit x y n) (sum_cases (bit_at x n) (bit_at y n) (carried x y n) (bit_at-lt x n) (bit_at-lt y n) (carried_lt x y n))

pub carry_row : (p b c : Bool) (x y n : ℕ) → p ≡ bit_of x n → b ≡ bit_of y n → c ≡ (carried x y n == 1)
    → (if b then (p || c) else (p && c)) ≡ (carried x y (n + 1) == 1)
carry_row p b c x y n e f g = rw (e, f, g, carry_more x y n) (carry_cases (bit_at x n) (bit_at y n) (carried x y n) (bit_at-lt x n) (bit_at-lt y n) (carried_lt x y n))

-- a sum and a number are compared by one bit more
pub compared_more : (p b q c lt d : Bool) (x lift y n : ℕ) → p ≡ bit_of x n → b ≡ bit_of lift n → q ≡ bit_of y n → AreCompared x lift y n c lt d
    → AreCompared x lift y (n + 1) (if b then (p || c) else (p && c))
    (if (if p then (if b then c else not c) else (if b then not c else c)) then (q && lt) else (q || lt))
    (d || not (alike (if p then (if b then c else not c) else (if b then not c else c)) q))
compared_more p b q c lt d x lift y n e f g before =
    let sum = sum_row p b c x lift n e f before.carry_is in
    record {
      carry_is = carry_row p b c x lift n e f before.carry_is;
      less = rw (sum, g, before.less) (sym (lt_more (x + lift) y n));
      differs = rw (sum, g, before.differs) (sym (differ_more (x + lift) y n));
    }

-- a number is longer than n bits where something is left of it without these
pub longer_is : (x n : ℕ) → not (nat_eq (x / 2 ^ n) 0) ≡ nat_le (2 ^ n) x
longer_is x n =
    elim (cases_lt x (2 ^ n)) [
      | inl l ↦ let none = (div-lt_iff_lt-mul {k = 2 ^ n} {x = x} {y = 1} (pow_pos n)).1 (omega (arith, l)) in grind (arith, nat_tests, none, l)
      | inr l ↦
          let some : 0 < x / 2 ^ n =
          elim (cases_lt 0 (x / 2 ^ n)) [
            | inl p ↦ p
            | inr p ↦ let low = (div-lt_iff_lt-mul {k = 2 ^ n} {x = x} {y = 1} (pow_pos n)).0 (omega (arith, p)) in absurd (omega (arith, low, l))
          ] in
          grind (arith, nat_tests, some, l)
    ]

-- a number of n bits and one that is no longer carry over where their sum is longer
pub past_carry : (x lift n : ℕ) → x < 2 ^ n → nat_le (2 ^ n) lift ≡ false → (carried x lift n == 1) ≡ nat_le (2 ^ n) (x + lift)
past_carry x lift n h none =
    let low : lift < 2 ^ n = grind (arith, nat_tests, none) in
    let p = 2 ^ n in
    let whole : carried x lift n ≡ (x + lift) / p = rw (mod-eq_of_lt h, mod-eq_of_lt low) refl in
    elim (cases_lt (x + lift) p) [
      | inl l ↦
          let none_over : (x + lift) / p < 1 = (div-lt_iff_lt-mul {k = p} {x = x + lift} {y = 1} (pow_pos n)).1 (omega (arith, l)) in
          grind (arith, nat_tests, whole, none_over, l)
      | inr l ↦
          let parts : x + lift ≡ (x + lift - p) + p * 1 = omega (arith, l) in
          let none_over : (x + lift - p) / p < 1 = (div-lt_iff_lt-mul {k = p} {x = x + lift - p} {y = 1} (pow_pos n)).1 (omega (arith, h, low)) in
          let one : (x + lift) / p ≡ (x + lift - p) / p + 1 = ap (λ z. z / p) parts ∙ add-mul-div_left (x + lift - p) 1 {y = p} (pow_pos n) in
          grind (arith, nat_tests, whole, one, none_over, l)
    ]

-- what is added is longer
pub past_lift : (x lift n : ℕ) → nat_le (2 ^ n) lift ≡ true → nat_le (2 ^ n) (x + lift) ≡ true
past_lift x lift n some = grind (arith, nat_tests, some)

-- sums by the bits of the other numbers, and by whether they are longer
pub whole_less : (x lift y n : ℕ) (c lt d past : Bool) → y < 2 ^ n → AreCompared x lift y n c lt d → past ≡ nat_le (2 ^ n) (x + lift) → (lt && not past) ≡ nat_lt (x + lift) y
whole_less x lift y n c lt d past k before e =
    elim (cases_lt (x + lift) (2 ^ n)) [
      | inl l ↦ rw (e, before.less, mod-eq_of_lt l, mod-eq_of_lt k) (grind (arith, nat_tests, l))
      | inr l ↦ rw e (grind (arith, nat_tests, l, k))
    ]

pub whole_differs : (x lift y n : ℕ) (c lt d past : Bool) → y < 2 ^ n → AreCompared x lift y n c lt d → past ≡ nat_le (2 ^ n) (x + lift) → (d || past) ≡ not (x + lift == y)
whole_differs x lift y n c lt d past k before e =
    elim (cases_lt (x + lift) (2 ^ n)) [
      | inl l ↦ rw (e, before.differs, mod-eq_of_lt l, mod-eq_of_lt k) (grind (arith, nat_tests, l))
      | inr l ↦ rw e (grind (arith, nat_tests, l, k))
    ]

-- the sides exchanged, where nothing is added to the first
pub exchanged_less : (x y lift : ℕ) → (not (y + lift == x) && not (nat_lt (y + lift) x)) ≡ nat_lt (x + 0) (y + lift)
exchanged_less x y lift = grind (arith, nat_tests)

pub exchanged_differs : (x y lift : ℕ) → not (y + lift == x) ≡ not (x + 0 == y + lift)
exchanged_differs x y lift = grind (arith, nat_tests)

-- the needed rows that satisfy the comparison, by those that are below and those that differ
pub by_sums : (op : CmpOp) (need : Bool) (x y : ℕ) → by_masks op need (need && nat_lt x y) (need && not (not (x == y))) ≡ (need && code_compares op x y)
by_sums Eq true x y = grind (arith, nat_tests)
by_sums Ne true x y = grind (arith, nat_tests)
by_sums Lt true x y = grind (arith, nat_tests)
by_sums Le true x y = grind (arith, nat_tests)
by_sums Gt true x y = grind (arith, nat_tests)
by_sums Ge true x y = grind (arith, nat_tests)
by_sums Eq false x y = refl
by_sums Ne false x y = refl
by_sums Lt false x y = refl
by_sums Le false x y = refl
by_sums Gt false x y = refl
by_sums Ge false x y = refl

-- whether a row is needed
pub some_row : (rows : List Bool) → list_any (λ row. row) rows ≡ true → some_below (length rows) (λ j. get_or rows j false) ≡ true
some_row rows any = by_case (some_below (length rows) (λ j. get_or rows j false)) refl
  where
    by_case : (b : Bool) → some_below (length rows) (λ j. get_or rows j false) ≡ b → some_below (length rows) (λ j. get_or rows j false) ≡ true
    by_case true h = h
    by_case false h = absurd (let none = list_any_none (λ row. row) rows (λ j d l. get_or_default rows j d false l ∙ none_at (length rows) (λ i. get_or rows i false) h j l) in cc)

-- bit b of the codes of segment q, from the plane that was read at its place
pub plane_read : (k q b at : ℕ) (units now : List (List ℕ)) (plane : List ℕ) → now ≡ units → plane ≡ get_or now at plane → at ≡ q * k + (k - 1 - b) → b < k → (q + 1) * k ≤ length units
    → (j : ℕ) → j < 256 → row_in plane j ≡ bit_of (code_in k units (256 * q + j)) b
plane_read k q b at units now plane kept is at_is low there j h =
    let inside : q * k + (k - 1 - b) < length units = omega (arith, there, low) in
    ap (λ p. row_in p j) (is ∙ ap (λ us. get_or us at plane) kept ∙ ap (λ m. get_or units m plane) at_is ∙ get_or_default units (q * k + (k - 1 - b)) plane [] inside) ∙ plane_bit k q b j units h low

-- how many of three planes there are, where there is no fourth
pub three_more : (n k : ℕ) → k < n + 4 → (if nat_lt n k then 1 else 0) + (if nat_lt (n + 1) k then 1 else 0) + (if nat_lt (n + 2) k then 1 else 0) ≡ min 4 (k - n)
three_more n k h = grind (arith, nat_tests, h)
