-- A number by its bits, from the highest on.
use Rattle.std.proofs.Common.{true, false, ◌==◌, ◌≡◌, ℕ, suc, ◌+◌, ◌-◌, ◌*◌, ◌^◌, ◌<◌, ◌≤◌, Bool, cond, map, refl, ap, sym, subst, ◌∙◌, arith}
use lib.Lanes.{mask_l}
use Rattle.std.specs.Int.{bit_at}
use Rattle.std.specs.List.{range_with_len}
use Rattle.std.proofs.lemmas.Nat.Bits.{bit_at-lt, same_from_bits_below}
use Rattle.std.proofs.lemmas.List.FromFn.{length-map-range_with_len, get_or-map-range_with_len}
use Rattle.std.proofs.Math.Nat.{pow-le-pow_right}
use Rattle.std.proofs.lemmas.Simd.{bit_mask_l, mask_l-lt}
use Rattle.bw_mask.specs.Masks.{bit_of, rows_of}
use Rattle.bw_mask.proofs.Views.{rows_len, rows_at, rows_are}

-- the number with F 0 as the highest of its n bits
abbrev pub number : (ℕ → Bool) → ℕ → ℕ
number F n = mask_l (rows_of n (λ i. F (n - 1 - i)))

-- one bit more, at the low end
pub number_more : (F : ℕ → Bool) (n : ℕ) → number F (n + 1) ≡ cond (F n) 1 0 + 2 * number F n
number_more F n =
    let one : n + 1 ≡ suc n = omega arith in
    let h = λ (i : ℕ). F (suc n - 1 - i) in
    let rest : rows_of n (λ i. F (n - 1 - i)) ≡ map h (range_with_len 1 n) =
    rows_are n (λ i. F (n - 1 - i)) (map h (range_with_len 1 n)) (length-map-range_with_len h 1 n) (λ i l.
    let e : suc n - 1 - (1 + i) ≡ n - 1 - i = omega arith in
    get_or-map-range_with_len h 1 n i (1 + i) false l refl ∙ ap F e) in
    let first : suc n - 1 - 0 ≡ n = omega arith in
    ap (number F) one ∙ ap (λ x. cond (F x) 1 0 + 2 * mask_l (map h (range_with_len 1 n))) first ∙ ap (λ xs. cond (F n) 1 0 + 2 * mask_l xs) (sym rest)

pub number_lt : (F : ℕ → Bool) (n : ℕ) → number F n < 2 ^ n
number_lt F n = subst (λ x. number F n < 2 ^ x) (rows_len n (λ i. F (n - 1 - i))) (mask_l-lt (rows_of n (λ i. F (n - 1 - i))))

pub number_same : (F G : ℕ → Bool) (n : ℕ) → ((p : ℕ) → p < n → F p ≡ G p) → number F n ≡ number G n
number_same F G n same =
    ap mask_l (rows_are n (λ i. F (n - 1 - i)) (rows_of n (λ i. G (n - 1 - i))) (rows_len n (λ i. G (n - 1 - i))) (λ i l.
    rows_at n (λ j. G (n - 1 - j)) i l ∙ sym (same (n - 1 - i) (omega arith))))

pub bit_is : (w i : ℕ) → cond (bit_of w i) 1 0 ≡ bit_at w i
bit_is w i = grind (arith, bit_at-lt w i)

pub bit_most : (b : Bool) → cond {A = ℕ} b 1 0 < 2
bit_most true = omega arith
bit_most false = omega arith

-- bit n - 1 - i of the number is F i
pub number_bit : (F : ℕ → Bool) (n i : ℕ) → i < n → bit_of (number F n) (n - 1 - i) ≡ F i
number_bit F n i l =
    let f = λ (p : ℕ). F (n - 1 - p) in
    let back : n - 1 - (n - 1 - i) ≡ i = omega arith in
    ap (λ x. x == 1) (bit_mask_l (rows_of n f) (n - 1 - i) ∙ ap (λ b. cond b 1 0) (rows_at n f (n - 1 - i) (omega arith))) ∙ one (F (n - 1 - (n - 1 - i))) ∙ ap F back
  where
    one : (b : Bool) → (cond b 1 0 == 1) ≡ b
    one true = refl
    one false = refl

-- a number below 2 ^ n by its bits
pub number_is : (F : ℕ → Bool) (n c : ℕ) → c < 2 ^ n → ((p : ℕ) → p < n → F p ≡ bit_of c (n - 1 - p)) → number F n ≡ c
number_is F n c small each =
    let f = λ (i : ℕ). F (n - 1 - i) in
    same_from_bits_below n (number F n) c (number_lt F n) small (λ i l.
    let back : n - 1 - (n - 1 - i) ≡ i = omega arith in
    bit_mask_l (rows_of n f) i ∙ ap (λ b. cond b 1 0) (rows_at n f i l ∙ each (n - 1 - i) (omega arith) ∙ ap (bit_of c) back) ∙ bit_is c i)

pub number_fits : (F : ℕ → Bool) (n m : ℕ) → n ≤ m → number F n < 2 ^ m
number_fits F n m h =
    let most : 2 ^ n ≤ 2 ^ m = pow-le-pow_right {n = 2} (omega arith) {i = n} {j = m} h in
    omega (arith, number_lt F n)
