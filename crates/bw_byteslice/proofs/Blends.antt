-- A byte put in place of another where a row is chosen, by bits alone.
use Rattle.std.proofs.Common.{Bool, ap, arith, bit_and, bit_or, false, if◌then◌else◌, max, not, pow_pos, refl, subst, suc, sym, true, zero, ℕ, ◌%◌, ◌&&◌, ◌*◌, ◌+◌, ◌-◌, ◌/◌, ◌<◌, ◌==◌, ◌^◌, ◌≡◌, ◌∙◌}
use Rattle.std.specs.Int.{bit_at, from_bool}
use Rattle.std.proofs.lemmas.Bool.{ne_eqb}
use Rattle.std.proofs.lemmas.Nat.{and_mask}
use Rattle.std.proofs.lemmas.Nat.Bits.{and_pow, bit_at-lt, bit_at-zero, bit_at_ones, bit_at_or, same_from_bits}
use lib.Bits.{and_zero_r}
use Rattle.bw_mask.specs.Masks.{bit_of}
use Rattle.bw_mask.proofs.Bits.{and_true, bit_of_and, bit_of_shr}

or_zero_left : (x : ℕ) → bit_or 0 x ≡ x
or_zero_left x =
    same_from_bits (bit_or 0 x) x (λ i.
    let none : max (bit_at 0 i) (bit_at x i) ≡ bit_at x i = omega (arith, bit_at-zero i) in
    bit_at_or 0 x i ∙ none)

or_zero_right : (x : ℕ) → bit_or x 0 ≡ x
or_zero_right x =
    same_from_bits (bit_or x 0) x (λ i.
    let none : max (bit_at x i) (bit_at 0 i) ≡ bit_at x i = omega (arith, bit_at-zero i) in
    bit_at_or x 0 i ∙ none)

whole : (x : ℕ) → x < 256 → bit_and x 255 ≡ x
whole x small = and_mask x 8 ∙ omega (arith, small)

-- the bits of a byte of ones where a row is chosen, and of zeros elsewhere
abbrev pub blend : Bool → ℕ → ℕ → ℕ
blend chosen own byte = bit_or (bit_and own (255 - (0 + (256 - from_bool chosen)) % 256)) (bit_and byte ((0 + (256 - from_bool chosen)) % 256))

pub blend_put : (b : Bool) (own byte : ℕ) → b ≡ true → byte < 256 → blend b own byte ≡ byte
blend_put true own byte e small = ap (λ x. bit_or x (bit_and byte 255)) (and_zero_r own) ∙ ap (bit_or 0) (whole byte small) ∙ or_zero_left byte
blend_put false own byte e small = absurd cc

pub blend_kept : (b : Bool) (own byte : ℕ) → b ≡ false → own < 256 → blend b own byte ≡ own
blend_kept true own byte e small = absurd cc
blend_kept false own byte e small = ap (λ x. bit_or x (bit_and byte 0)) (whole own small) ∙ ap (bit_or own) (and_zero_r byte) ∙ or_zero_right own

pub blend_is : (b : Bool) (own byte : ℕ) → own < 256 → byte < 256 → blend b own byte ≡ (if b then byte else own)
blend_is true own byte own_small small = blend_put true own byte refl small
blend_is false own byte own_small small = blend_kept false own byte refl own_small

pub blend_small : (b : Bool) (own byte : ℕ) → own < 256 → byte < 256 → blend b own byte < 256
blend_small true own byte own_small small = subst (λ x. x < 256) (sym (blend_put true own byte refl small)) small
blend_small false own byte own_small small = subst (λ x. x < 256) (sym (blend_kept false own byte refl own_small)) own_small

-- a bit of a word, in the word's byte that has it
pub bit_of_byte : (rows s b : ℕ) → b < 8 → bit_of (bit_and (rows / 2 ^ s) 255) b ≡ bit_of rows (s + b)
bit_of_byte rows s b low =
    bit_of_and (rows / 2 ^ s) 255 b
    ∙ ap (λ x. bit_of (rows / 2 ^ s) b && x) (ap (λ x. x == 1) (bit_at_ones 8 b low))
    ∙ and_true (bit_of (rows / 2 ^ s) b)
    ∙ bit_of_shr rows s b

two : (d p : ℕ) → d < 2 → 0 < p → not (d * p == 0) ≡ (d == 1)
two zero p low some = let none : 0 * p ≡ 0 = omega arith in rw none refl
two (suc zero) p low some = let one : 1 * p ≡ p = omega arith in rw one (ap not (ne_eqb p 0 (λ e. omega (arith, e, some))))
two (suc (suc d)) p low some = absurd (omega (arith, low))

-- a bit of a word, tested by a word in which it alone is set
pub bit_tested : (w i : ℕ) → not (bit_and w (2 ^ i) == 0) ≡ bit_of w i
bit_tested w i = ap (λ n. not (n == 0)) (and_pow w i) ∙ two (bit_at w i) (2 ^ i) (bit_at-lt w i) (pow_pos i)
